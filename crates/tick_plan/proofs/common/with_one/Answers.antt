use Rattle.std.proofs.Common.{◌≡◌, ◌∙◌, sym, subst}
use Rattle.std.specs.Int.{◌∣◌}
use Rattle.rational_time.specs.declared.ratio.Ratio.{Ratio}
use Rattle.flat_model.specs.declared.clock.Clock.TheVariants.{Periodic}
use Rattle.tick_plan.proofs.common.with_one.Goals as goal

same_parts : (p s q r : Ratio) → Periodic p s ≡ Periodic q r → (p ≡ q) × (s ≡ r)
same_parts p s q r is = (cc, cc)

pub returns-in-Periodic-clause-parts : goal.returns-in-Periodic-clause-parts
returns-in-Periodic-clause-parts c p s is =
    let same = same_parts c.in-Periodic.period c.in-Periodic.start p s (sym c.in-Periodic.is ∙ is) in
    (subst (λ x. x.den ∣ c.with_clock.result) same.0 c.with_clock.ensures.period, subst (λ x. x.den ∣ c.with_clock.result) same.1 c.with_clock.ensures.start)
