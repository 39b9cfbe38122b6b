use Rattle.std.proofs.Common.{subst, sym}
use Rattle.std.specs.Int.{IsGcd}
use Rattle.rational_time.proofs.Factors.{coprime_one}
use Rattle.rational_time.proofs.Order.{cross_same_trans}
use Rattle.rational_time.proofs.fraction.make.Goals as goal

pub invariant_of-result : goal.invariant_of-result
invariant_of-result c = record {
  positive = c.requires;
  lowest = ∣ subst (λ d. IsGcd c.args.num d 1) (sym c.if-den-eq1.true) (coprime_one c.args.num) ∣₁;
}

pub returns-then-is_apart : goal.returns-then-is_apart
returns-then-is_apart c =
    cross_same_trans c.without_fives-top.result.0 c.without_fives-top.result.1 c.without_twos-half.result.0 c.without_twos-half.result.1 c.args.num c.args.den
    c.without_twos-half.ensures.positive c.without_fives-top.ensures.same c.without_twos-half.ensures.same

pub returns : goal.returns
returns c =
    let parts = cross_same_trans c.without_fives-top.result.0 c.without_fives-top.result.1 c.without_twos-half.result.0 c.without_twos-half.result.1 c.args.num c.args.den
    c.without_twos-half.ensures.positive c.without_fives-top.ensures.same c.without_twos-half.ensures.same in
    cross_same_trans _ _ c.without_fives-top.result.0 c.without_fives-top.result.1 c.args.num c.args.den c.without_fives-top.ensures.positive c.by_divisor.ensures parts
