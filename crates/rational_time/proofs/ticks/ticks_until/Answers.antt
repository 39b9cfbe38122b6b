use Rattle.std.proofs.Common.{rules, arith, ◌*◌, ◌-◌, ◌<◌}
use Rattle.std.proofs.Math.Nat.{div-le_self}
use Rattle.std.proofs.lemmas.Nat.{mul-lt}
use Rattle.rational_time.proofs.Products.{product_positive}
use Rattle.rational_time.proofs.Floors.{floor_below}
use Rattle.rational_time.proofs.Counting.{no_tick, tick_count}
use Rattle.rational_time.proofs.ticks.ticks_until.Goals as goal

pub returns-then-first-last : goal.returns-then-first-last
returns-then-first-last c = λ k. (
  λ below. absurd (omega arith),
  λ within. absurd (no_tick c.args.start.num c.args.start.den c.args.period.num c.args.period.den c.args.stop.num c.args.stop.den _ _ k (search rules) (search rules) (search rules) c.if-first-last.true within),
)

pub returns-else-first-last : goal.returns-else-first-last
returns-else-first-last c = λ k. tick_count c.args.start.num c.args.start.den c.args.period.num c.args.period.den c.args.stop.num c.args.stop.den _ _ _ k (search rules) (search rules) (search rules) (search rules) (search rules) c.if-first-last.false

pub overflow_mul-unit : goal.overflow_mul-unit
overflow_mul-unit c = omega (arith, mul-lt c.from.result c.from-2.result 1099511627776 1099511627776 (omega (arith, c.from.ensures, c.requires.start.1)) (omega (arith, c.from-2.ensures, c.requires.period.1)))

pub overflow_mul-first : goal.overflow_mul-first
overflow_mul-first c = omega (arith, mul-lt c.from-3.result c.from-4.result 1099511627776 1099511627776 (omega (arith, c.from-3.ensures, c.requires.start.0)) (omega (arith, c.from-4.ensures, c.requires.period.1)))

pub overflow_mul-step : goal.overflow_mul-step
overflow_mul-step c = omega (arith, mul-lt c.from-5.result c.from-6.result 1099511627776 1099511627776 (omega (arith, c.from-5.ensures, c.requires.period.0)) (omega (arith, c.from-6.ensures, c.requires.start.1)))

pub floor_of_product-last-requires-clause-divisor : goal.floor_of_product-last-requires-clause-divisor
floor_of_product-last-requires-clause-divisor c = omega (arith, c.from-8.ensures, c.args.stop.positive)

pub floor_of_product-last-requires-clause-width : goal.floor_of_product-last-requires-clause-width
floor_of_product-last-requires-clause-width c =
    let unit = mul-lt c.from.result c.from-2.result 1099511627776 1099511627776 (omega (arith, c.from.ensures, c.requires.start.1)) (omega (arith, c.from-2.ensures, c.requires.period.1)) in
    omega (arith, mul-lt c.from-8.result (c.from.result * c.from-2.result) 1099511627776 1208925819614629174706176 (omega (arith, c.from-8.ensures, c.requires.stop_grain)) (omega (arith, unit)))

pub floor_of_product-last-requires-clause-fits : goal.floor_of_product-last-requires-clause-fits
floor_of_product-last-requires-clause-fits c =
    let unit = mul-lt c.from.result c.from-2.result 1099511627776 1099511627776 (omega (arith, c.from.ensures, c.requires.start.1)) (omega (arith, c.from-2.ensures, c.requires.period.1)) in
    omega (arith, mul-lt c.from-7.result (c.from.result * c.from-2.result) (2097152 * c.from-8.result) 1208925819614629174706176 (omega (arith, c.from-7.ensures, c.from-8.ensures, c.requires.stop)) (omega (arith, unit)))

pub nonzero_div-result : goal.nonzero_div-result
nonzero_div-result c = product_positive c.from-5.result c.from-6.result (omega (arith, c.from-5.ensures, c.requires.rising)) (omega (arith, c.from-6.ensures, c.args.start.positive))

pub overflow_add-result : goal.overflow_add-result
overflow_add-result c =
    let unit = mul-lt c.from.result c.from-2.result 1099511627776 1099511627776 (omega (arith, c.from.ensures, c.requires.start.1)) (omega (arith, c.from-2.ensures, c.requires.period.1)) in
    let wide = mul-lt c.from-7.result (c.from.result * c.from-2.result) (2097152 * c.from-8.result) 1208925819614629174706176 (omega (arith, c.from-7.ensures, c.from-8.ensures, c.requires.stop)) (omega (arith, unit)) in
    let last : c.floor_of_product-last.result < 2535301200456458802993406410752 = floor_below (c.from-7.result * (c.from.result * c.from-2.result)) c.from-8.result c.floor_of_product-last.result 2535301200456458802993406410752 c.floor_of_product-last.ensures (omega (arith, wide)) in
    omega (arith, last, div-le_self (c.floor_of_product-last.result - c.from-3.result * c.from-4.result) (c.from-5.result * c.from-6.result))
