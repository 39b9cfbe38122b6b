use Rattle.std.proofs.Common.{rules, ◌≡◌, ◌<◌, ◌≤◌, ◌^◌, ◌++◌, sym, subst, None, Option, ℕ}
use Rattle.std.specs.Option.{MatchOption}
use Rattle.rational_time.specs.Multiple.{IsLcm, HasMultipleBelow}
use Rattle.sub_clock_solve.specs.Grain.{own_denominators, IsGrain}
use Rattle.sub_clock_solve.proofs.Grains.{past_first, lcm_positive, two_more}
use Rattle.sub_clock_solve.proofs.gather.with_clock.Goals as goal

pub returns-in_err-common : goal.returns-in_err-common
returns-in_err-common c = λ ns g.
    let none : c.args.grid.site ≡ None = search rules in
    let (m, lcm, past) = c.in_err-common.ensures {u = tt} in
    let first : IsLcm c.args.grain c.args.grid.period.den m = subst (λ d. IsLcm c.args.grain d m) c.den.ensures lcm in
    let Goal : Option ℕ → Option ℕ → Type 0 = λ o s. MatchOption o (HasMultipleBelow (2 ^ 40) (ns ++ own_denominators s c.args.grid) → ⊥) (λ n. IsGrain (ns ++ own_denominators s c.args.grid) n × (n < 2 ^ 40)) in
    subst (λ s. Goal c.from_residual.result s) (sym none) (subst (λ o. Goal o None) (sym c.from_residual.ensures)
    (past_first ns c.args.grain c.args.grid.period.den c.args.grid.start.den m c.requires.positive c.args.grid.period.positive g first past))

pub common-requires-2-clause-grain : goal.common-requires-2-clause-grain
common-requires-2-clause-grain c =
    let den : c.den.result ≡ c.args.grid.period.den = c.den.ensures in
    let both = c.in_ok-common.ensures {u = tt} in
    lcm_positive c.args.grain c.den.result c.in_ok-common.field-0 c.requires.positive (subst (λ d. 0 < d) (sym den) c.args.grid.period.positive) both.0

pub returns : goal.returns
returns c = λ ns g.
    let none : c.args.grid.site ≡ None = search rules in
    let both = c.in_ok-common.ensures {u = tt} in
    let first : IsLcm c.args.grain c.args.grid.period.den c.in_ok-common.field-0 = subst (λ d. IsLcm c.args.grain d c.in_ok-common.field-0) c.den.ensures both.0 in
    let second = subst (λ d. MatchOption c.common-2.result ((n : ℕ) × IsLcm c.in_ok-common.field-0 d n × (2 ^ 40 ≤ n)) (λ n. IsLcm c.in_ok-common.field-0 d n × (n < 2 ^ 40))) c.den-2.ensures c.common-2.ensures in
    subst (λ s. MatchOption c.common-2.result (HasMultipleBelow (2 ^ 40) (ns ++ own_denominators s c.args.grid) → ⊥) (λ n. IsGrain (ns ++ own_denominators s c.args.grid) n × (n < 2 ^ 40))) (sym none)
    (two_more ns c.args.grain c.args.grid.period.den c.args.grid.start.den c.in_ok-common.field-0 c.common-2.result c.requires.positive c.args.grid.period.positive c.args.grid.start.positive g first second)
