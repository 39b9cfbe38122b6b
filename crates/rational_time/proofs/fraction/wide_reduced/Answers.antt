use Rattle.std.proofs.Common.{inl, inr, ◌≤◌, ◌<◌, ◌^◌, ◌/◌, rules}
use Rattle.rational_time.proofs.Fractions.{divisor_positive, lowest_quotients, lowest_of, below_limits}
use Rattle.rational_time.proofs.fraction.wide_reduced.Goals as goal

pub nonzero_div-den : goal.nonzero_div-den
nonzero_div-den c = divisor_positive c.args.num c.args.den c.wide_gcd-divisor.result c.requires c.wide_gcd-divisor.ensures

pub returns-in_err-num-clause-none : goal.returns-in_err-num-clause-none
returns-in_err-num-clause-none c =
    let large : 2 ^ 64 ≤ c.args.num / c.wide_gcd-divisor.result = search rules in
    (λ _. (_, _, lowest_quotients c.args.num c.args.den c.wide_gcd-divisor.result c.requires c.wide_gcd-divisor.ensures, inl large), λ _. search rules)

pub returns-in_err-den-clause-none : goal.returns-in_err-den-clause-none
returns-in_err-den-clause-none c =
    let large : 2 ^ 64 ≤ c.args.den / c.wide_gcd-divisor.result = search rules in
    (λ _. (_, _, lowest_quotients c.args.num c.args.den c.wide_gcd-divisor.result c.requires c.wide_gcd-divisor.ensures, inr large), λ _. search rules)

pub invariant_of-result : goal.invariant_of-result
invariant_of-result c =
    let form = lowest_of c.args.num c.args.den c.wide_gcd-divisor.result c.in_ok-num.num c.in_ok-den.den c.requires c.wide_gcd-divisor.ensures (search rules) (search rules) in
    record { positive = form.positive; lowest = ∣ form.lowest ∣₁ }

pub returns-clause-value : goal.returns-clause-value
returns-clause-value c =
    (lowest_of c.args.num c.args.den c.wide_gcd-divisor.result c.in_ok-num.num c.in_ok-den.den c.requires c.wide_gcd-divisor.ensures (search rules) (search rules)).same

pub returns-clause-none : goal.returns-clause-none
returns-clause-none c =
    let form = lowest_of c.args.num c.args.den c.wide_gcd-divisor.result c.in_ok-num.num c.in_ok-den.den c.requires c.wide_gcd-divisor.ensures (search rules) (search rules) in
    let num : c.in_ok-num.num < 2 ^ 64 = search rules in
    let den : c.in_ok-den.den < 2 ^ 64 = search rules in
    (λ e. absurd (cc), λ over. absurd (below_limits (2 ^ 64) (2 ^ 64) _ _ _ _ c.requires form num den over))
