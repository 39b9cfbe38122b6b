use Rattle.std.proofs.Common.{subst}
use Rattle.std.specs.Int.{IsGcd}
use Rattle.rational_time.proofs.Factors.{fives, factor_positive, apart_of_five}
use Rattle.rational_time.proofs.tens.without_other_fives.Goals as goal

pub loop-rest-preserved : goal.loop-rest-preserved
loop-rest-preserved c =
    let whole = fives c.loop-rest.rest c.loop-rest-test.true in record {
      apart = λ h. c.loop-rest.invariant.apart (subst (λ z. IsGcd c.args.num z 1) whole (apart_of_five c.args.num _ c.if-num-eq0.false h));
      positive = factor_positive _ _ _ whole c.loop-rest.invariant.positive;
    }
