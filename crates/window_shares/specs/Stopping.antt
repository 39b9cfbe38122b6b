-- The first moment of a window at which anything failed. This project's own.
use Rattle.std.specs.Prelude.{◌≡◌, ◌⊎◌, ℕ, List, Option, Some, None, slice_get}
use Rattle.flat_model.specs.declared.fault.Fault.{Fault}
use Rattle.moment_moves.specs.Moments.{fault_of}
use Rattle.window_plan.specs.declared.moment.PlannedMoment.{PlannedMoment}
use Rattle.window_plan.specs.Moments.{IsQuiet}
use Rattle.window_shares.specs.Sharing.{ShareRan, AreQuiet, told_by}

-- at a moment a site or a pure use fails, or a share stopped there
abbrev pub IsStop : PlannedMoment → List ShareRan → ℕ → Type 0
IsStop moment runs j = (IsQuiet moment → ⊥) ⊎ ((i : ℕ) × (ran : ShareRan) × (slice_get runs i ≡ Some ran) × (ran.done ≡ j))

-- the first such moment, or behind all of them
pub record IsFirstStop (moments : List PlannedMoment) (runs : List ShareRan) (done : ℕ) : Type 0 where
  pub quiet : AreQuiet moments runs done
  pub stops : (moment : PlannedMoment) → slice_get moments done ≡ Some moment → IsStop moment runs done

-- what is told of a moment that may be there
abbrev pub fault_in : List ShareRan → ℕ → Option PlannedMoment → Option Fault
fault_in runs j None = None
fault_in runs j (Some moment) = fault_of moment.at moment.site (told_by moment runs j)

-- what is told of the moment in a place of a window
abbrev pub fault_at : List PlannedMoment → List ShareRan → ℕ → Option Fault
fault_at moments runs j = fault_in runs j (slice_get moments j)
