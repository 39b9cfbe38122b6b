-- How one moment is planned. This project's own.
use Rattle.std.specs.Prelude.{◌≡◌, ◌≢◌, ℕ, suc, ◌<◌, ◌^◌, Bool, true, false, List, [], length, drop, Some, slice_get, unwrap_or}
use Rattle.flat_model.specs.declared.clock.Moment.{Moment}
use Rattle.flat_model.specs.Assignment.{Assignment}
use Rattle.flat_model.specs.Moments.{moment_at}
use Rattle.flat_model.specs.Setting.{Setting, site_answer, is_false, risings_before}
use Rattle.flat_model.specs.Uses.{Use}
use Rattle.side_theory.specs.Typed.{AreValuedBefore}
use Rattle.tick_plan.specs.Plans.{Planned, risings_of, is_noted, moments_of, counted}
use Rattle.moment_body.specs.declared.model.ClockedModel.{ClockedModel}
use Rattle.moment_body.specs.Stages.{Stages, AreStages, IsModelOf}
use Rattle.site_risings.specs.Risings.{was_low}
use Rattle.window_plan.specs.declared.moment.PlannedMoment.{PlannedMoment}
use Rattle.window_plan.specs.declared.taking.PureUses.{PureUses}
use Rattle.window_plan.specs.Moments.{base_of, HasRoom, IsPlannedAt, AnswersAs}
use Rattle.window_plan.specs.Pure.{ArePure}

-- what planning a moment changes: the plan, the room of the pure uses, which sites are low, and the moment itself
pub record Draft : Type 0 where
  pub plan : Planned
  pub pure : PureUses
  pub low : List Bool
  pub moment : PlannedMoment

-- which sites are low is told of each; before Initial none was
pub record AreLows (s : Setting) (n : ℕ) (low : List Bool) : Type 0 where
  pub wide : length low ≡ length s.clocking.sites
  pub first : n ≡ 0 → (site : ℕ) → was_low low site ≡ false

-- a plan from which the moments before n were taken, whatever rose at them
pub record IsPlanReady (s : Setting) (n : ℕ) (plan : Planned) (low : List Bool) : Type 0 where
  pub clocks : plan.clocks ≡ s.clocking.clocks
  pub ahead : plan.ahead ≡ drop n (moments_of s.instants)
  pub sites : length plan.noted ≡ length plan.risings
  pub own : length plan.noted ≡ length s.clocking.sites
  pub lows : AreLows s n low

-- a plan that gave moment n last, at which no site is noted yet
pub record IsPlanGiven (s : Setting) (n : ℕ) (at : Moment) (plan : Planned) (low : List Bool) : Type 0 where
  pub here : moment_at s.instants n ≡ Some at
  pub clocks : plan.clocks ≡ s.clocking.clocks
  pub given : plan.given ≡ moment_at s.instants n
  pub ahead : plan.ahead ≡ drop (suc n) (moments_of s.instants)
  pub sites : length plan.noted ≡ length plan.risings
  pub own : length plan.noted ≡ length s.clocking.sites
  pub fresh : (site : ℕ) → is_noted plan site ≡ false
  pub lows : AreLows s n low

-- which sites were low at the moment before n is so of S
abbrev pub WereLow : Setting → Assignment → ℕ → List Bool → Type 0
WereLow s S n low = (site k : ℕ) → n ≡ suc k → was_low low site ≡ is_false (site_answer s S site k)

-- what the plan counted before n, and which sites were low, is so of S
pub record IsKnownBefore (s : Setting) (S : Assignment) (n : ℕ) (plan : Planned) (low : List Bool) : Type 0 where
  pub risings : (site : ℕ) → unwrap_or (slice_get (counted plan.risings plan.noted) site) 0 ≡ risings_before s S site n
  pub were_low : WereLow s S n low

-- the same of a plan that gave moment n
pub record IsKnownAt (s : Setting) (S : Assignment) (n : ℕ) (plan : Planned) (low : List Bool) : Type 0 where
  pub risings : (site : ℕ) → risings_of plan site ≡ risings_before s S site n
  pub were_low : WereLow s S n low

-- a model with the stages of its uses, its pure uses, and room for a moment
pub record IsDraftOf (s : Setting) (uses : List Use) (stages : Stages) (model : ClockedModel) (draft : Draft) : Type 0 where
  pub staged : AreStages s uses stages
  pub model_is : IsModelOf s model
  pub pure : ArePure s stages.pure draft.pure
  pub few : length s.clocking.sites < 2 ^ 32
  pub few_classes : length s.clocking.clocks < 2 ^ 32
  pub room : HasRoom s draft.moment

-- it is so of some setting, at a moment that the plan gave
abbrev pub CanFill : ClockedModel → Moment → Draft → Type 0
CanFill model at draft = (s : Setting) × (uses : List Use) × (stages : Stages) × (n : ℕ) × IsDraftOf s uses stages model draft × IsPlanGiven s n at draft.plan draft.low

-- moment n was planned for each S of which all was known, and all is known behind it where sites answer over S as they are planned
pub record HasPlanned (s : Setting) (uses : List Use) (stages : Stages) (knew : Assignment → Type 0) (n : ℕ) (new : Draft) : Type 0 where
  pub here : moment_at s.instants n ≡ Some new.moment.at
  pub room : HasRoom s new.moment
  pub pure : ArePure s stages.pure new.pure
  pub ready : IsPlanReady s (suc n) new.plan new.low
  pub planned : (S : Assignment) → AreValuedBefore s S n → knew S → IsPlannedAt s uses stages S n new.moment
  pub knows : (S : Assignment) → AreValuedBefore s S n → knew S → AnswersAs s S n (base_of new.moment) → IsKnownBefore s S (suc n) new.plan new.low

-- whatever setting it is
abbrev pub Fills : ClockedModel → Moment → Draft → Draft → Type 0
Fills model at old new = (s : Setting) (uses : List Use) (stages : Stages) (n : ℕ) → IsDraftOf s uses stages model old → IsPlanGiven s n at old.plan old.low
    → HasPlanned s uses stages (λ S. IsKnownAt s S n old.plan old.low) n new

-- the same before the next moment
abbrev pub CanPlanOne : ClockedModel → Draft → Type 0
CanPlanOne model draft = (s : Setting) × (uses : List Use) × (stages : Stages) × (n : ℕ) × IsDraftOf s uses stages model draft × IsPlanReady s n draft.plan draft.low

-- the next moment was planned, or none is left and nothing changed
abbrev pub PlansOne : ClockedModel → Draft → Draft → Bool → Type 0
PlansOne model old new false = (old.plan.ahead ≡ []) × (new ≡ old)
PlansOne model old new true = (old.plan.ahead ≢ []) × ((s : Setting) (uses : List Use) (stages : Stages) (n : ℕ) → IsDraftOf s uses stages model old → IsPlanReady s n old.plan old.low
    → HasPlanned s uses stages (λ S. IsKnownBefore s S n old.plan old.low) n new)
