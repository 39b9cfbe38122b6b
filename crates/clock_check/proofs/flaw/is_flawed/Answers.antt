use Rattle.std.proofs.Common.{◌∙◌, sym, subst}
use Rattle.clock_check.specs.private.Flaws.{HasFlaw}
use Rattle.clock_check.proofs.Counting.{same_grid}
use Rattle.clock_check.proofs.flaw.is_flawed.Goals as goal

pub returns-in-Some : goal.returns-in-Some
returns-in-Some c = (
  λ t. (c.in-Some.grid, c.in-Some.is, c.has_flaw.ensures.0 t),
  λ (g, at, flaw). c.has_flaw.ensures.1 (subst (λ x. HasFlaw c.args.flaw x) (same_grid g c.in-Some.grid (sym at ∙ c.in-Some.is)) flaw),
)
