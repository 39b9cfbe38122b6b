-- At which stage of a moment each use is taken. This project's own.
use Rattle.std.specs.Prelude.{◌≡◌, ℕ, zero, suc, ◌==◌, Bool, true, false, List, [], ◌∷◌, ◌++◌, map, Option, Some, None, slice_get, Contains, if◌then◌else◌}
use Rattle.flat_model.specs.declared.equation.Equation.{Equation}
use Rattle.flat_model.specs.Setting.{Setting, class_of_equation, partition_of}
use Rattle.flat_model.specs.Uses.{Use, Reads}
use Rattle.moment_theory.specs.Division.{IsReachedWhere, joined}
use Rattle.moment_theory.specs.Free.{AsksLast, IsReachedBy}
use Rattle.moment_order.specs.declared.stage.Stage.{Stage}
use Rattle.moment_order.specs.declared.stage.Stage.TheVariants.{Pure, Partition, Waiting}

-- a set of uses that rest on no clock: their equations are unclocked and ask for no last value, and what they read, they reach themselves, as far as uses reach it
pub record AreClockless (s : Setting) (uses : List Use) (pure : Use → Bool) : Type 0 where
  pub unclocked : (entry : Use) → Contains uses entry → pure entry ≡ true → class_of_equation s entry.equation ≡ None
  pub plain : (entry : Use) (equation : Equation) (z : ℕ) → Contains uses entry → pure entry ≡ true → slice_get s.model.equations entry.equation ≡ Some equation → AsksLast equation z → ⊥
  pub reads : (entry : Use) (y : ℕ) → Contains uses entry → pure entry ≡ true → Reads s entry.equation y → IsReachedBy y uses → IsReachedWhere pure uses y

-- the largest of these sets
pub record AreLargest (s : Setting) (uses : List Use) (pure : Use → Bool) : Type 0 where
  pub clockless : AreClockless s uses pure
  pub largest : (other : Use → Bool) → AreClockless s uses other → (entry : Use) → Contains uses entry → other entry ≡ true → pure entry ≡ true

-- the stage of a use, by whether it is pure and by its base partition: an unclocked use that is not pure waits
abbrev pub stage_in : Bool → Option ℕ → Stage
stage_in true place = Pure
stage_in false None = Waiting
stage_in false (Some k) = Partition k

abbrev pub stage_of : Setting → (Use → Bool) → Use → Stage
stage_of s pure entry = stage_in (pure entry) (partition_of s (class_of_equation s entry.equation))

-- the stages of uses, one for each: pure are those of the largest set of uses that rest on no clock
pub record AreStages (s : Setting) (uses : List Use) (stages : List Stage) : Type 0 where
  pub pure : Use → Bool
  pub largest : AreLargest s uses pure
  pub each : stages ≡ map (stage_of s pure) uses

-- two stages are one
abbrev pub is_stage : Stage → Stage → Bool
is_stage Pure Pure = true
is_stage (Partition k) (Partition p) = p == k
is_stage Waiting Waiting = true
is_stage _ _ = false

-- the uses of a stage, in their order
abbrev pub uses_at : Stage → List Stage → List Use → List Use
uses_at stage [] uses = []
uses_at stage (own ∷ stages) [] = []
uses_at stage (own ∷ stages) (entry ∷ uses) = if is_stage stage own then (entry ∷ uses_at stage stages uses) else uses_at stage stages uses

-- those of each base partition, from number k on
abbrev pub parts_at : List Stage → List Use → ℕ → ℕ → List (List Use)
parts_at stages uses k zero = []
parts_at stages uses k (suc count) = uses_at (Partition k) stages uses ∷ parts_at stages uses (suc k) count

-- the uses in the order of their stages
abbrev pub staged_order : ℕ → List Stage → List Use → List Use
staged_order count stages uses = uses_at Pure stages uses ++ (joined (parts_at stages uses 0 count) ++ uses_at Waiting stages uses)
