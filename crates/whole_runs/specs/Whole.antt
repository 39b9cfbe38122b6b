-- A run of the stretches of a base partition in which no equation fails. This project's own.
use Rattle.std.specs.Prelude.{◌≡◌, ℕ, true, false, Bool, ℤ, List, [], ◌∷◌, ◌++◌, Option, Some, None, slice_get, Contains}
use Rattle.sync_values.specs.declared.value.Value.{Value}
use Rattle.flat_model.specs.declared.model.FlatName.{FlatName}
use Rattle.flat_model.specs.Assignment.{Assignment, IsOfKind}
use Rattle.flat_model.specs.Given.{Row, with_row}
use Rattle.flat_model.specs.Setting.{Setting, class_of_equation, partition_of, class_ticks}
use Rattle.flat_model.specs.Uses.{Use}
use Rattle.moment_theory.specs.Free.{IsOrdered}
use Rattle.moment_theory.specs.Sound.{IsSound, IsClear}
use Rattle.moment_theory.specs.Taken.{AreTaken}
use Rattle.step_code.specs.Code.{Cells}
use Rattle.step_code.specs.Lines.{AreApart}
use Rattle.step_lines.specs.Stretches.{IsStretch}
use Rattle.side_theory.specs.Kept.{IsLaidOut, IsSet, IsClockSet}
use Rattle.side_theory.specs.Runs.{AreCelled, AreBooleans}
use Rattle.part_stretches.specs.declared.running.ClassStretch.{ClassStretch}
use Rattle.part_stretches.specs.Parts.{Block, entries_of, AreAlike, AllBegin}
use Rattle.part_stretches.specs.Running.{tick_in, RunsFrom}
use Rattle.first_failure.specs.Turns.{FailsAmong, IsLeast}
use Rattle.whole_runs.specs.Lines.{AreExpressing}

-- a stretch has the code of a block whose class is of base partition p; its own class number is a place of whoever runs it
pub record IsCoded (s : Setting) (uses : List Use) (p : Option ℕ) (common : Cells) (t : ℕ) (one : ClassStretch) (block : Block) : Type 0 where
  pub partition : partition_of s (Some block.class) ≡ p
  pub stretch : IsStretch block.at t block.lines one.stretch
  pub lines : AreExpressing s uses block.class block.entries block.lines
  pub alike : AreAlike common block.at
  pub apart : AreApart block.at
  pub celled : AreCelled block.at t block.lines
  pub booleans : AreBooleans s block.at
  pub laid : IsLaidOut block.at

abbrev pub AreCoded : Setting → List Use → Option ℕ → Cells → ℕ → List ClassStretch → List Block → Type 0
AreCoded s uses p common t [] [] = Unit {0}
AreCoded s uses p common t (one ∷ rest) (block ∷ blocks) = IsCoded s uses p common t one block × AreCoded s uses p common t rest blocks
AreCoded s uses p common t _ _ = ⊥

-- it is shown of each stretch whether the class of its block ticks, and where it does its clock's cells are set
abbrev pub AreShownBy : Setting → Assignment → ℕ → Row → List Bool → ℕ → List ℤ → List ClassStretch → List Block → Type 0
AreShownBy s S m row ticking t cells (one ∷ rest) (block ∷ blocks) =
    ((tick_in ticking one.class ≡ class_ticks s (with_row S m row) (Some block.class) m) × (tick_in ticking one.class ≡ true → IsClockSet s S m block.class block.at t cells)) × AreShownBy s S m row ticking t cells rest blocks
AreShownBy s S m row ticking t cells _ _ = Unit {0}

-- a name has a value of its kind
pub record IsValuedAt (s : Setting) (row : Row) (x : ℕ) : Type 0 where
  pub value : Value
  pub is : row x ≡ Some value
  pub typed : (name : FlatName) → slice_get s.model.names x ≡ Some name → IsOfKind name.kind value

-- all uses were taken and none of their equations fails; the cells are set over the row that they left, in which a name has a value where its class ticks, and none where it rests
pub record IsWhole (s : Setting) (uses own : List Use) (S : Assignment) (m : ℕ) (row : Row) (common : Cells) (t : ℕ) (new : List ℤ) : Type 0 where
  pub last : Row
  pub taken : AreTaken s S m own row last
  pub set : IsSet s S m last common t new
  pub values : (entry : Use) (class : ℕ) → Contains own entry → class_of_equation s entry.equation ≡ Some class → class_ticks s (with_row S m row) (Some class) m ≡ true → IsValuedAt s last entry.name
  pub rests : (entry : Use) (class : ℕ) → Contains own entry → class_of_equation s entry.equation ≡ Some class → class_ticks s (with_row S m row) (Some class) m ≡ false → last entry.name ≡ None
  pub told : IsLeast (FailsAmong s uses S m own last) None

-- over cells that are set for a moment, a run of the stretches of a base partition that ends with no failure is such
abbrev pub WholeLaw : Type 0
WholeLaw = (s : Setting) (uses before after : List Use) (blocks : List Block) → IsOrdered s uses (before ++ (entries_of blocks ++ after)) → (p : Option ℕ) (common : Cells) (t : ℕ) (stretches : List ClassStretch) → AreCoded s uses p common t stretches blocks
    → (S : Assignment) (m : ℕ) (row : Row) → IsSound s (with_row S m row) m → AllBegin s p S m row before → IsClear (entries_of blocks) row → (ticking : List Bool) (old new : List ℤ) → IsSet s S m row common t old → AreShownBy s S m row ticking t old stretches blocks
    → RunsFrom 0 ticking stretches old new None → IsWhole s uses (entries_of blocks) S m row common t new
