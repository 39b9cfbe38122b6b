-- Laws of a moment of a run.
use Rattle.std.specs.Prelude.{◌≡◌, ℕ, suc, List, Option, Some, if◌then◌else◌}
use Rattle.flat_model.specs.declared.clock.Moment.{Moment}
use Rattle.flat_model.specs.Assignment.{Assignment, previous_value}
use Rattle.flat_model.specs.Given.{Row, with_row}
use Rattle.flat_model.specs.Setting.{Setting, start_of, class_ticks, name_ticks}
use Rattle.flat_model.specs.Uses.{Use}
use Rattle.tick_plan.specs.Plans.{Planned, ticks_in_plan}
use Rattle.first_failure.specs.declared.least.EquationFailing.{EquationFailing}
use Rattle.run_moments.specs.Moving.{IsPlanAt}
use Rattle.site_risings.specs.declared.answers.SiteFailing.{SiteFailing}
use Rattle.moment_moves.specs.Moments.{fault_of, IsRunMoment, EndsWith}

-- a moment that was run by its stages, over a plan at which the risings were noted, ends as its fault says
abbrev pub MomentLaw : Type 0
MomentLaw = (s : Setting) (uses pure : List Use) (pieces : List (List Use)) (waiting : List Use) (A : Assignment) (n : ℕ) (at : Moment) (base last : Row) (site : Option SiteFailing) (told : Option EquationFailing)
    → IsRunMoment s uses pure pieces waiting A n at base last site told → (plan : Planned) → IsPlanAt s (with_row A n base) n plan → EndsWith s A n last plan (fault_of at site told)

-- the ticks that a plan tells are those of the assignment at whose moment it is
abbrev pub TicksLaw : Type 0
TicksLaw = (s : Setting) (S : Assignment) (n : ℕ) (plan : Planned) (class : ℕ) → IsPlanAt s S n plan → ticks_in_plan plan class ≡ class_ticks s S (Some class) n

-- the last value of a name before the next moment: that of the moment where it ticks, else the one before
abbrev pub KeptLaw : Type 0
KeptLaw = (s : Setting) (A : Assignment) (n : ℕ) (last : Row) (x : ℕ)
    → previous_value (name_ticks s (with_row A n last) x) (with_row A n last x) (start_of s x) (suc n)
    ≡ (if name_ticks s (with_row A n last) x n then last x else previous_value (name_ticks s A x) (A x) (start_of s x) n)
