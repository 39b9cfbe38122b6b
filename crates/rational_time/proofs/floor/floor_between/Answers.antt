use Rattle.std.proofs.Common.{arith, ◌*◌}
use Rattle.std.proofs.lemmas.Nat.{mul-lt}
use Rattle.rational_time.proofs.Products.{product_positive}
use Rattle.rational_time.proofs.floor.floor_between.Goals as goal

pub overflow_mul-distance : goal.overflow_mul-distance
overflow_mul-distance c = omega (arith, mul-lt c.from.result c.from-2.result 1152921504606846976 1099511627776 (omega (arith, c.from.ensures, c.requires.to, c.requires.to_grain)) (omega (arith, c.from-2.ensures, c.requires.from_grain)))

pub overflow_mul-distance-2 : goal.overflow_mul-distance-2
overflow_mul-distance-2 c = omega (arith, mul-lt c.from-3.result c.from-4.result 1152921504606846976 1099511627776 (omega (arith, c.from-3.ensures, c.requires.from, c.requires.from_grain)) (omega (arith, c.from-4.ensures, c.requires.to_grain)))

pub overflow_sub-distance : goal.overflow_sub-distance
overflow_sub-distance c = rw (c.from.ensures, c.from-2.ensures, c.from-3.ensures, c.from-4.ensures) c.requires.order

pub overflow_mul-from : goal.overflow_mul-from
overflow_mul-from c = omega (arith, mul-lt c.from-5.result c.from-6.result 1099511627776 1099511627776 (omega (arith, c.from-5.ensures, c.requires.from_grain)) (omega (arith, c.from-6.ensures, c.requires.to_grain)))

pub floor_of_product-requires-clause-divisor : goal.floor_of_product-requires-clause-divisor
floor_of_product-requires-clause-divisor c = product_positive c.from-5.result c.from-6.result (omega (arith, c.from-5.ensures, c.args.from.positive)) (omega (arith, c.from-6.ensures, c.args.to.positive))

pub floor_of_product-requires-clause-width : goal.floor_of_product-requires-clause-width
floor_of_product-requires-clause-width c =
    let grain = mul-lt c.from-5.result c.from-6.result 1099511627776 1099511627776 (omega (arith, c.from-5.ensures, c.requires.from_grain)) (omega (arith, c.from-6.ensures, c.requires.to_grain)) in
    omega (arith, mul-lt (c.from-5.result * c.from-6.result) c.from-7.result 1208925819614629174706176 4294967296 (omega (arith, grain)) (omega (arith, c.from-7.ensures, c.ranges.k.fits)))

pub returns : goal.returns
returns c = rw (c.from.ensures, c.from-2.ensures, c.from-3.ensures, c.from-4.ensures, c.from-5.ensures, c.from-6.ensures, c.from-7.ensures) at c.floor_of_product.ensures
