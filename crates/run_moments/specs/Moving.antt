-- One moment of a run over any plan. This project's own.
use Rattle.std.specs.Prelude.{◌≡◌, ℕ, suc, false, List, [], ◌∷◌, length, map, drop, Option, Some, None, slice_get, unwrap_or}
use Rattle.sync_values.specs.declared.value.Value.{Value}
use Rattle.flat_model.specs.declared.clock.Moment.{Moment}
use Rattle.flat_model.specs.declared.fault.Fault.{Fault}
use Rattle.flat_model.specs.Moments.{moment_at}
use Rattle.flat_model.specs.Assignment.{Assignment}
use Rattle.flat_model.specs.Setting.{Setting, rises, risings_before}
use Rattle.flat_model.specs.Meets.{Meets}
use Rattle.flat_model.specs.Faults.{IsFirstFault}
use Rattle.flat_model.specs.Trace.{columns_of}
use Rattle.tick_plan.specs.Plans.{Planned, risings_of, is_noted, moments_of, counted}
use Rattle.moment_theory.specs.Going.{AgreeBefore}
use Rattle.run_ahead.specs.Ahead.{IsAloneBefore, Window}

-- a plan from which the moments before m were taken, with what was noted at them
pub record IsPlanBefore (s : Setting) (S : Assignment) (m : ℕ) (plan : Planned) : Type 0 where
  pub clocks : plan.clocks ≡ s.clocking.clocks
  pub ahead : plan.ahead ≡ drop m (moments_of s.instants)
  pub sites : length plan.noted ≡ length plan.risings
  pub own : length plan.noted ≡ length s.clocking.sites
  pub risings : (site : ℕ) → unwrap_or (slice_get (counted plan.risings plan.noted) site) 0 ≡ risings_before s S site m

-- a plan that gave moment n last, at which no site is noted yet
pub record IsPlanTaken (s : Setting) (S : Assignment) (n : ℕ) (plan : Planned) : Type 0 where
  pub clocks : plan.clocks ≡ s.clocking.clocks
  pub given : plan.given ≡ moment_at s.instants n
  pub ahead : plan.ahead ≡ drop (suc n) (moments_of s.instants)
  pub sites : length plan.noted ≡ length plan.risings
  pub own : length plan.noted ≡ length s.clocking.sites
  pub risings : (site : ℕ) → risings_of plan site ≡ risings_before s S site n
  pub fresh : (site : ℕ) → is_noted plan site ≡ false

-- a plan at moment n of S: its risings are those of S before n, and what is noted are those at n
pub record IsPlanAt (s : Setting) (S : Assignment) (n : ℕ) (plan : Planned) : Type 0 where
  pub clocks : plan.clocks ≡ s.clocking.clocks
  pub given : plan.given ≡ moment_at s.instants n
  pub ahead : plan.ahead ≡ drop (suc n) (moments_of s.instants)
  pub sites : length plan.noted ≡ length plan.risings
  pub own : length plan.noted ≡ length s.clocking.sites
  pub risings : (site : ℕ) → risings_of plan site ≡ risings_before s S site n
  pub noted : (site : ℕ) → is_noted plan site ≡ rises s S site n

-- what is kept and what the plan gave are those of some assignment at some moment, alone in meeting the model before it
abbrev pub IsThere : (Setting → Assignment → ℕ → Type 0) → Planned → Moment → Type 0
IsThere keeps plan at = (s : Setting) × (A : Assignment) × (n : ℕ) × keeps s A n × IsPlanTaken s A n plan × (moment_at s.instants n ≡ Some at) × IsAloneBefore s A n

-- how a moment ends: the model is met up to it, with its row, and all is kept; or the first fault is at it
abbrev pub MomentEnds : (Setting → Assignment → ℕ → Type 0) → Setting → Assignment → ℕ → Planned → List (Option Value) → Option Fault → Type 0
MomentEnds keeps s after n plan row None =
    IsAloneBefore s after (suc n) × keeps s after (suc n) × IsPlanBefore s after (suc n) plan × (row ≡ map (λ x. after x n) (columns_of s.model.names))
MomentEnds keeps s after n plan row (Some fault) =
    IsAloneBefore s after n × (moment_at s.instants n ≡ Some fault.moment) × IsFirstFault s after n fault.place fault.kind × ((T : Assignment) → Meets s T n → ⊥)

pub record HasMoved (keeps : Setting → Assignment → ℕ → Type 0) (s : Setting) (A : Assignment) (n : ℕ) (plan : Planned) (row : List (Option Value)) (fault : Option Fault) : Type 0 where
  pub after : Assignment
  pub agrees : AgreeBefore A after n
  pub ends : MomentEnds keeps s after n plan row fault

-- running a moment that a plan gave, from what is kept before it
abbrev pub Moves : (Setting → Assignment → ℕ → Type 0) → Planned → Moment → (Setting → Assignment → ℕ → Type 0) → Planned → List (Option Value) → Option Fault → Type 0
Moves before taken at after plan row fault = (s : Setting) (A : Assignment) (n : ℕ) → before s A n → IsPlanTaken s A n taken → moment_at s.instants n ≡ Some at → IsAloneBefore s A n
    → HasMoved after s A n plan row fault

-- a window of one moment, or of none
abbrev pub moments_in : Option Moment → List Moment
moments_in None = []
moments_in (Some at) = at ∷ []

abbrev pub rows_in : Option Moment → List (Option Value) → List (List (Option Value))
rows_in None row = []
rows_in (Some at) row = row ∷ []

abbrev pub one_window : Option Moment → List (Option Value) → Option Fault → Window
one_window ran row fault = record { moments = moments_in ran; rows = rows_in ran row; fault = fault }
