-- The uses that no clock decides of, taken at a moment. This project's own.
use Rattle.std.specs.Prelude.{◌≡◌, ℕ, ◌<◌, List, length, Option, Some, slice_get}
use Rattle.sync_values.specs.declared.value.Value.{Value}
use Rattle.flat_model.specs.declared.clock.Moment.{Moment}
use Rattle.flat_model.specs.declared.model.FlatModel.{FlatModel}
use Rattle.flat_model.specs.Values.{value_in}
use Rattle.flat_model.specs.Assignment.{Assignment}
use Rattle.flat_model.specs.Moments.{moment_at}
use Rattle.flat_model.specs.Setting.{Setting}
use Rattle.flat_model.specs.Uses.{Use}
use Rattle.moment_theory.specs.Taken.{AreInputs, AreTaken}
use Rattle.first_failure.specs.declared.least.EquationFailing.{EquationFailing}
use Rattle.first_failure.specs.Turns.{FailsAmong, IsLeast}
use Rattle.side_theory.specs.Typed.{AreValuedBefore}
use Rattle.tree_step.specs.declared.taking.Entry.{Entry}
use Rattle.tree_step.specs.Starts.{uses_of, IsAmong}
use Rattle.moment_body.specs.Stages.{Stages, AreStages}
use Rattle.moment_steps.specs.Settled.{IsPlainEntry, AlwaysTicks}
use Rattle.window_plan.specs.declared.taking.PureUses.{PureUses}

-- the values of a moment by the numbers of names, as code has them
abbrev pub Values : Type 0
Values = List (Option Value)

-- these are the pure uses of a setting, with the numbers of its names and room for each
pub record ArePure (s : Setting) (pure : List Use) (w : PureUses) : Type 0 where
  pub uses_are : uses_of w.entries ≡ pure
  pub plain : (entry : Entry) → IsAmong entry w.entries → IsPlainEntry s entry
  pub always : AlwaysTicks w.always
  pub long : length w.numbers ≡ length s.model.names
  pub numbered : (x : ℕ) → x < length s.model.names → slice_get w.numbers x ≡ Some x
  pub room : length w.cells.items ≡ length s.model.names

-- the uses stay, and so does the room
pub record IsSameUses (old new : PureUses) : Type 0 where
  pub entries : new.entries ≡ old.entries
  pub always : new.always ≡ old.always
  pub numbers : new.numbers ≡ old.numbers
  pub room : length new.cells.items ≡ length old.cells.items

-- the values of the inputs at moment n of a setting, before its pure uses are taken
pub record IsBefore (s : Setting) (uses : List Use) (stages : Stages) (n : ℕ) (w : PureUses) (flat : FlatModel) (inputs : Values) : Type 0 where
  pub staged : AreStages s uses stages
  pub pure : ArePure s stages.pure w
  pub model : flat ≡ s.model
  pub at : Moment
  pub here : moment_at s.instants n ≡ Some at
  pub wide : length inputs ≡ length s.model.names
  pub are : AreInputs s n (value_in inputs)

-- it is so of some setting
abbrev pub CanTake : PureUses → FlatModel → Values → Type 0
CanTake w flat inputs = (s : Setting) × (uses : List Use) × (stages : Stages) × (n : ℕ) × IsBefore s uses stages n w flat inputs

-- the pure uses were taken, and the least of their equations that fails is told, whatever has values before the moment
pub record HasTaken (s : Setting) (uses : List Use) (stages : Stages) (S : Assignment) (n : ℕ) (inputs base : Values) (told : Option EquationFailing) : Type 0 where
  pub taken : AreTaken s S n stages.pure (value_in inputs) (value_in base)
  pub told_is : IsLeast (FailsAmong s uses S n stages.pure (value_in base)) told

abbrev pub Takes : PureUses → FlatModel → Values → Values → Option EquationFailing → Type 0
Takes w flat inputs base told = (s : Setting) (uses : List Use) (stages : Stages) (n : ℕ) → IsBefore s uses stages n w flat inputs
    → (S : Assignment) → AreValuedBefore s S n → HasTaken s uses stages S n inputs base told
