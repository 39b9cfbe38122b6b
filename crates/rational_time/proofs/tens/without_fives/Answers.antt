use Rattle.std.proofs.Common.{rules}
use Rattle.rational_time.proofs.Factors.{fives, factor_positive, same_without}
use Rattle.rational_time.proofs.tens.without_fives.Goals as goal

pub loop-under-preserved : goal.loop-under-preserved
loop-under-preserved c =
    let top = fives c.loop-under.top (search rules) in
    let under = fives c.loop-under.under (search rules) in record {
      same = same_without _ _ 5 _ _ c.args.num c.args.den top under (search rules) c.loop-under.invariant.same;
      positive = factor_positive _ _ _ under c.loop-under.invariant.positive;
    }
