-- What a step of uses over cells does.
use Rattle.std.specs.Prelude.{◌≡◌, ℕ, List, Option, Some, None}
use Rattle.flat_model.specs.Assignment.{Assignment}
use Rattle.flat_model.specs.Given.{Row}
use Rattle.flat_model.specs.Setting.{Setting}
use Rattle.flat_model.specs.Uses.{Use}
use Rattle.moment_theory.specs.Taken.{AreTaken}
use Rattle.first_failure.specs.declared.least.EquationFailing.{EquationFailing}
use Rattle.first_failure.specs.Turns.{FailsAmong, IsLeast}
use Rattle.tree_step.specs.declared.cell.Cell.{Cell}
use Rattle.tree_step.specs.declared.taking.Entry.{Entry}
use Rattle.tree_step.specs.Cells.{cell_in}
use Rattle.tree_step.specs.Starts.{Sight, uses_of, IsStart}

-- a name has a cell as before, and only its value at the moment may differ
abbrev pub IsSameCell : Option Cell → Option Cell → Type 0
IsSameCell None None = Unit {0}
IsSameCell (Some old) (Some new) = (new.name ≡ old.name) × (new.kept ≡ old.kept) × (new.standing ≡ old.standing)
IsSameCell _ _ = ⊥

-- the uses were taken from the base: cells hold the row that they left, and the least of their equations that fails over it is told
pub record HasTaken (s : Setting) (uses : List Use) (S : Assignment) (m : ℕ) (base : Row) (sight : Sight) (entries : List Entry) (old new : List Cell) (result : Option EquationFailing) : Type 0 where
  pub own : Row
  pub taken : AreTaken s S m (uses_of entries) base own
  pub holds : (x : ℕ) (cell : Cell) → cell_in sight.places new x ≡ Some cell → cell.now ≡ own x
  pub kept : (x : ℕ) → IsSameCell (cell_in sight.places old x) (cell_in sight.places new x)
  pub told : IsLeast (FailsAmong s uses S m (uses_of entries) own) result

-- whatever the step stands on
abbrev pub TakesUses : Sight → List Entry → List Cell → List Cell → Option EquationFailing → Type 0
TakesUses sight entries old new result = (s : Setting) (uses before after : List Use) (S : Assignment) (m : ℕ) (base : Row)
    → IsStart s uses before after S m base sight entries old → HasTaken s uses S m base sight entries old new result
