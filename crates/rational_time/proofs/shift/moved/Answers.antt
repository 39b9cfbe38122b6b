use Rattle.std.proofs.Common.{arith, rules, ◌≡◌, ◌*◌, unsigned_abs}
use Rattle.std.proofs.lemmas.Nat.{mul-lt}
use Rattle.rational_time.specs.Shift.{moved_num}
use Rattle.rational_time.proofs.Products.{product_positive}
use Rattle.rational_time.proofs.shift.moved.Goals as goal

pub moved_sum-sum-requires-clause-start : goal.moved_sum-sum-requires-clause-start
moved_sum-sum-requires-clause-start c = c.requires.start

pub moved_sum-sum-requires-clause-period : goal.moved_sum-sum-requires-clause-period
moved_sum-sum-requires-clause-period c = c.requires.period

pub overflow_mul-grain : goal.overflow_mul-grain
overflow_mul-grain c = omega (arith, mul-lt c.from.result c.from-2.result 1099511627776 4294967296 (omega (arith, c.from.ensures, c.requires.period.1)) (omega (arith, c.from-2.ensures, c.ranges.r.fits)))

pub overflow_mul-from : goal.overflow_mul-from
overflow_mul-from c =
    let grain = mul-lt c.from.result c.from-2.result 1099511627776 4294967296 (omega (arith, c.from.ensures, c.requires.period.1)) (omega (arith, c.from-2.ensures, c.ranges.r.fits)) in
    omega (arith, mul-lt c.from-3.result (c.from.result * c.from-2.result) 1099511627776 4722366482869645213696 (omega (arith, c.from-3.ensures, c.requires.start.1)) (omega (arith, grain)))

pub reduced-requires : goal.reduced-requires
reduced-requires c =
    product_positive c.from-3.result (c.from.result * c.from-2.result) (omega (arith, c.from-3.ensures, c.args.start.positive))
    (product_positive c.from.result c.from-2.result (omega (arith, c.from.ensures, c.args.period.positive)) (omega (arith, c.from-2.ensures, c.requires.divisor)))

pub returns-clause-size : goal.returns-clause-size
returns-clause-size c =
    let size : c.unsigned_abs.result ≡ unsigned_abs (moved_num c.args.start c.args.negative c.args.period c.args.k c.args.r c.args.back) = search rules in
    rw (c.from.ensures, c.from-2.ensures, c.from-3.ensures, size) at c.in_ok-start.ensures.value
