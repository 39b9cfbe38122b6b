-- Moments of one assignment that were run. This project's own.
use Rattle.std.specs.Prelude.{ℕ, ◌+◌, ◌-◌, ◌<◌, nat_le, List, Option, None, if◌then◌else◌}
use Rattle.flat_model.specs.declared.clock.Moment.{Moment}
use Rattle.flat_model.specs.Assignment.{Assignment}
use Rattle.flat_model.specs.Given.{Row, with_row}
use Rattle.flat_model.specs.Setting.{Setting}
use Rattle.flat_model.specs.Uses.{Use}
use Rattle.tick_plan.specs.Plans.{Planned}
use Rattle.first_failure.specs.declared.least.EquationFailing.{EquationFailing}
use Rattle.run_ahead.specs.Ahead.{IsAloneBefore}
use Rattle.run_moments.specs.Moving.{IsPlanAt}
use Rattle.site_risings.specs.declared.answers.SiteFailing.{SiteFailing}
use Rattle.moment_moves.specs.Moments.{IsRunMoment}
use Rattle.moment_body.specs.Stages.{Stages}

-- an assignment with the rows of a window from moment n on
abbrev pub windowed : Assignment → ℕ → (ℕ → Row) → Assignment
windowed A n rows x k = if nat_le n k then rows (k - n) x else A x k

-- moment m of U was run by its stages, and left U's own row; over what the pure uses left, a plan stood at it with what rose
pub record IsRunAt (s : Setting) (uses : List Use) (stages : Stages) (U : Assignment) (m : ℕ) (site : Option SiteFailing) (told : Option EquationFailing) : Type 0 where
  pub at : Moment
  pub base : Row
  pub run : IsRunMoment s uses stages.pure stages.pieces stages.waiting U m at base (λ x. U x m) site told
  pub plan : Planned
  pub plan_at : IsPlanAt s (with_row U m base) m plan

-- so many moments from n on were run, each where U alone meets the model before it, and nothing failed
abbrev pub AreRun : Setting → List Use → Stages → Assignment → ℕ → ℕ → Type 0
AreRun s uses stages U n count = (j : ℕ) → j < count → IsAloneBefore s U (n + j) → IsRunAt s uses stages U (n + j) None None
