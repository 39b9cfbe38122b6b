use Rattle.std.proofs.Common.{subst}
use Rattle.std.specs.Int.{IsGcd}
use Rattle.rational_time.proofs.Fractions.{same_fraction, coprime_quotients, quotient_positive}
use Rattle.rational_time.proofs.fraction.by_divisor.Goals as goal

pub returns : goal.returns
returns c = same_fraction c.args.num c.args.den c.gcd-divisor.result c.gcd-divisor.ensures

pub invariant_of-result : goal.invariant_of-result
invariant_of-result c = record {
  positive = c.requires;
  lowest = ∣ subst (λ g. IsGcd c.args.num c.args.den g) c.if-divisor-eq1.true c.gcd-divisor.ensures ∣₁;
}

pub invariant_of-result-2 : goal.invariant_of-result-2
invariant_of-result-2 c = record {
  positive = quotient_positive c.args.num c.args.den c.gcd-divisor.result c.requires c.gcd-divisor.ensures;
  lowest = ∣ coprime_quotients c.args.num c.args.den c.gcd-divisor.result c.requires c.gcd-divisor.ensures ∣₁;
}
