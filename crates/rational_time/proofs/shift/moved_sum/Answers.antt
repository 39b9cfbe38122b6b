use Rattle.std.proofs.Common.{rules, ◌+ℤ◌, FitsSigned, ◌*◌, arith}
use Rattle.std.proofs.lemmas.Nat.{mul-lt}
use Rattle.std.specs.Int.{w128}
use Rattle.rational_time.proofs.Signs.{sum_fits}
use Rattle.rational_time.proofs.shift.moved_sum.Goals as goal

pub overflow_add-result : goal.overflow_add-result
overflow_add-result c =
    let sum : FitsSigned w128 (c.with_sign-from.result +ℤ c.with_sign-way.result) =
    sum_fits c.with_sign-from.result c.with_sign-way.result c.with_sign-from.ensures.low c.with_sign-from.ensures.high c.with_sign-way.ensures.low c.with_sign-way.ensures.high in
    search rules

pub overflow_mul-grain : goal.overflow_mul-grain
overflow_mul-grain c = omega (arith, mul-lt c.from.result c.from-2.result 1099511627776 4294967296 (omega (arith, c.from.ensures, c.requires.period.1)) (omega (arith, c.from-2.ensures, c.ranges.r.fits)))

pub overflow_mul-from : goal.overflow_mul-from
overflow_mul-from c =
    let grain = mul-lt c.from.result c.from-2.result 1099511627776 4294967296 (omega (arith, c.from.ensures, c.requires.period.1)) (omega (arith, c.from-2.ensures, c.ranges.r.fits)) in
    omega (arith, mul-lt c.from-3.result (c.from.result * c.from-2.result) 1099511627776 4722366482869645213696 (omega (arith, c.from-3.ensures, c.requires.start.0)) (omega (arith, grain)))

pub with_sign-from-requires : goal.with_sign-from-requires
with_sign-from-requires c =
    let grain = mul-lt c.from.result c.from-2.result 1099511627776 4294967296 (omega (arith, c.from.ensures, c.requires.period.1)) (omega (arith, c.from-2.ensures, c.ranges.r.fits)) in
    omega (arith, mul-lt c.from-3.result (c.from.result * c.from-2.result) 1099511627776 4722366482869645213696 (omega (arith, c.from-3.ensures, c.requires.start.0)) (omega (arith, grain)))

pub overflow_mul-from-2 : goal.overflow_mul-from-2
overflow_mul-from-2 c = omega (arith, mul-lt c.from-4.result c.from-5.result 1099511627776 4294967296 (omega (arith, c.from-4.ensures, c.requires.period.0)) (omega (arith, c.from-5.ensures, c.ranges.k.fits)))

pub overflow_mul-from-3 : goal.overflow_mul-from-3
overflow_mul-from-3 c =
    let steps = mul-lt c.from-4.result c.from-5.result 1099511627776 4294967296 (omega (arith, c.from-4.ensures, c.requires.period.0)) (omega (arith, c.from-5.ensures, c.ranges.k.fits)) in
    omega (arith, mul-lt (c.from-4.result * c.from-5.result) c.from-6.result 4722366482869645213696 1099511627776 (omega (arith, steps)) (omega (arith, c.from-6.ensures, c.requires.start.1)))

pub with_sign-way-requires : goal.with_sign-way-requires
with_sign-way-requires c =
    let steps = mul-lt c.from-4.result c.from-5.result 1099511627776 4294967296 (omega (arith, c.from-4.ensures, c.requires.period.0)) (omega (arith, c.from-5.ensures, c.ranges.k.fits)) in
    omega (arith, mul-lt (c.from-4.result * c.from-5.result) c.from-6.result 4722366482869645213696 1099511627776 (omega (arith, steps)) (omega (arith, c.from-6.ensures, c.requires.start.1)))
