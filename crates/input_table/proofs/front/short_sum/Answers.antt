use Rattle.std.proofs.Common.{◌+◌, ◌*◌, ◌<◌, ◌^◌, sym, subst, refl, rules, arith}
use Rattle.input_table.proofs.Fronts.{product_small, sum_in_range}
use Rattle.input_table.proofs.front.short_sum.Goals as goal

pub overflow_mul-sum : goal.overflow_mul-sum
overflow_mul-sum c =
    let unit : c.args.before.den * c.args.den < 2 ^ 43 = subst (λ b. b * c.args.den < 2 ^ 43) c.den.ensures (omega (arith, c.if-unit.false)) in
    let small = product_small c.args.before.num c.args.before.den c.args.den c.requires.before.0 c.requires.small.0 unit in
    let fits : c.num.result * c.args.den < 2 ^ 63 = subst (λ n. n * c.args.den < 2 ^ 63) (sym c.num.ensures) small in
    search rules

pub overflow_mul-sum-2 : goal.overflow_mul-sum-2
overflow_mul-sum-2 c =
    let unit : c.args.before.den * c.args.den < 2 ^ 43 = subst (λ b. b * c.args.den < 2 ^ 43) c.den.ensures (omega (arith, c.if-unit.false)) in
    let small = product_small c.args.num c.args.den c.args.before.den c.requires.small.1 c.args.before.positive (omega (arith, unit)) in
    let fits : c.args.num * c.den-2.result < 2 ^ 63 = subst (λ n. c.args.num * n < 2 ^ 63) (sym c.den-2.ensures) small in
    search rules

pub overflow_add-sum : goal.overflow_add-sum
overflow_add-sum c =
    let unit : c.args.before.den * c.args.den < 2 ^ 43 = subst (λ b. b * c.args.den < 2 ^ 43) c.den.ensures (omega (arith, c.if-unit.false)) in
    let small = product_small c.args.before.num c.args.before.den c.args.den c.requires.before.0 c.requires.small.0 unit in
    let fits : c.num.result * c.args.den < 2 ^ 63 = subst (λ n. n * c.args.den < 2 ^ 63) (sym c.num.ensures) small in
    let other = product_small c.args.num c.args.den c.args.before.den c.requires.small.1 c.args.before.positive (omega (arith, unit)) in
    let fits_too : c.args.num * c.den-2.result < 2 ^ 63 = subst (λ n. c.args.num * n < 2 ^ 63) (sym c.den-2.ensures) other in
    let sum : c.num.result * c.args.den + c.args.num * c.den-2.result < 2 ^ 64 = omega (arith, fits, fits_too) in
    search rules

pub returns-then-den : goal.returns-then-den
returns-then-den c =
    sum_in_range c.make-time.result (c.args.before.num * c.args.den + c.args.num * c.args.before.den) (c.args.before.den * c.args.den) _ _
    (rw (c.num.ensures, c.den-2.ensures) refl) (rw c.den.ensures refl) (omega (arith, c.if-sum-unit.false)) c.make-time.ensures (omega (arith, c.if-den.true, c.den-3.ensures))
