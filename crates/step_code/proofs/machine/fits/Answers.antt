use Rattle.std.proofs.Common.{◌∙◌, sym}
use Rattle.step_code.proofs.Runs.{unfit_one}
use Rattle.step_code.proofs.machine.fits.Goals as goal

pub returns-then-not-is_within : goal.returns-then-not-is_within
returns-then-not-is_within c = unfit_one _ _ _ _ c.loop-i-test.true c.loop-i.invariant (λ fit. sym c.if-not-is_within.true ∙ c.is_within.ensures.1 fit)
