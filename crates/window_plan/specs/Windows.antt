-- Moments that are planned one behind the other. This project's own.
use Rattle.std.specs.Prelude.{◌≡◌, ◌⊎◌, ℕ, suc, ◌+◌, ◌<◌, ◌≤◌, ◌^◌, Bool, List, [], length, Some, slice_get}
use Rattle.flat_model.specs.Assignment.{Assignment}
use Rattle.flat_model.specs.Moments.{moment_at}
use Rattle.flat_model.specs.Setting.{Setting}
use Rattle.flat_model.specs.Uses.{Use}
use Rattle.tick_plan.specs.Plans.{Planned}
use Rattle.moment_theory.specs.Going.{AgreeBefore}
use Rattle.moment_body.specs.declared.model.ClockedModel.{ClockedModel}
use Rattle.moment_body.specs.Stages.{Stages, AreStages, IsModelOf}
use Rattle.run_moments.specs.Moving.{IsPlanBefore}
use Rattle.window_plan.specs.declared.moment.PlannedMoment.{PlannedMoment}
use Rattle.window_plan.specs.declared.taking.PureUses.{PureUses}
use Rattle.window_plan.specs.Drafts.{AreLows, IsPlanReady, WereLow}
use Rattle.window_plan.specs.Moments.{HasRoom, IsPlannedAt, GoesBy, IsQuiet}
use Rattle.window_plan.specs.Pure.{ArePure}

-- what planning a window changes: the plan, the room of the pure uses, which sites are low, and the moments
pub record Course : Type 0 where
  pub plan : Planned
  pub pure : PureUses
  pub low : List Bool
  pub moments : List PlannedMoment

-- each moment has room
abbrev pub HaveRoom : Setting → List PlannedMoment → Type 0
HaveRoom s moments = (j : ℕ) (moment : PlannedMoment) → slice_get moments j ≡ Some moment → HasRoom s moment

-- a model with the stages of its uses before moment n of an assignment: the plan stands there, and so does what was low
pub record IsCourseOf (s : Setting) (uses : List Use) (stages : Stages) (A : Assignment) (n : ℕ) (model : ClockedModel) (course : Course) : Type 0 where
  pub staged : AreStages s uses stages
  pub model_is : IsModelOf s model
  pub few : length s.clocking.sites < 2 ^ 32
  pub few_classes : length s.clocking.clocks < 2 ^ 32
  pub pure : ArePure s stages.pure course.pure
  pub room : HaveRoom s course.moments
  pub plan_is : IsPlanBefore s A n course.plan
  pub lows : AreLows s n course.low
  pub were_low : WereLow s A n course.low

-- it is so of some run
abbrev pub CanPlan : ClockedModel → Course → Type 0
CanPlan model course = (s : Setting) × (uses : List Use) × (stages : Stages) × (A : Assignment) × (n : ℕ) × IsCourseOf s uses stages A n model course

-- the first moments were planned from n on, each for whatever agrees with A before n and goes on as the moments before it are planned; and behind them the plan stands for whatever goes on by all of them
pub record HasCourse (s : Setting) (uses : List Use) (stages : Stages) (A : Assignment) (n : ℕ) (course : Course) (count : ℕ) : Type 0 where
  pub pure : ArePure s stages.pure course.pure
  pub room : HaveRoom s course.moments
  pub here : (j : ℕ) (moment : PlannedMoment) → j < count → slice_get course.moments j ≡ Some moment → moment_at s.instants (n + j) ≡ Some moment.at
  pub planned : (S : Assignment) → AgreeBefore A S n → (j : ℕ) (moment : PlannedMoment) → j < count → slice_get course.moments j ≡ Some moment → GoesBy s S n course.moments j → IsPlannedAt s uses stages S (n + j) moment
  pub ready : IsPlanReady s (n + count) course.plan course.low
  pub behind : (S : Assignment) → AgreeBefore A S n → GoesBy s S n course.moments count → IsPlanBefore s S (n + count) course.plan × WereLow s S (n + count) course.low

-- whatever run it is
abbrev pub Plans : ClockedModel → Course → Course → ℕ → Type 0
Plans model old new count = (s : Setting) (uses : List Use) (stages : Stages) (A : Assignment) (n : ℕ) → IsCourseOf s uses stages A n model old → HasCourse s uses stages A n new count

-- a moment at which something failed
pub record IsLast (moments : List PlannedMoment) (count : ℕ) : Type 0 where
  pub place : ℕ
  pub moment : PlannedMoment
  pub is : suc place ≡ count
  pub found : slice_get moments place ≡ Some moment
  pub fails : IsQuiet moment → ⊥

-- there are no more moments than there is room for; before the last one nothing fails; a window ends early where something fails at its last moment or none is left, and where none was left before it is empty
pub record EndsSo (old new : Course) (count : ℕ) : Type 0 where
  pub long : length new.moments ≡ length old.moments
  pub within : count ≤ length new.moments
  pub quiet : (j : ℕ) (moment : PlannedMoment) → suc j < count → slice_get new.moments j ≡ Some moment → IsQuiet moment
  pub early : count < length new.moments → (new.plan.ahead ≡ []) ⊎ IsLast new.moments count
  pub none : old.plan.ahead ≡ [] → (count ≡ 0) × (new.plan ≡ old.plan)
