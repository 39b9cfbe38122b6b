-- Words that are filled for a moment are set for it. This project's own.
use Rattle.std.specs.Prelude.{◌≡◌, ℕ, suc, true, ℤ, List, Option, Some, None, length, slice_get}
use Rattle.flat_model.specs.Values.{value_in}
use Rattle.flat_model.specs.Assignment.{Assignment, previous_value}
use Rattle.flat_model.specs.Given.{Row}
use Rattle.flat_model.specs.Setting.{Setting, start_of, name_ticks}
use Rattle.cell_keys.specs.declared.key.CellKey.{CellKey}
use Rattle.cell_keys.specs.declared.key.CellKey.TheVariants as key
use Rattle.cell_keys.specs.Cells.{cell_of, AreWhole}
use Rattle.part_layout.specs.Keyed.{keyed_cells}
use Rattle.side_theory.specs.Kept.{IsSet, IsClockSet}
use Rattle.tree_step.specs.declared.cell.Cell.{Cell}
use Rattle.tree_step.specs.declared.frame.ClockNow.{ClockNow}
use Rattle.tree_step.specs.Cells.{cell_in}
use Rattle.tree_step.specs.Starts.{Sight, KeepsLast, IsClockShown}
use Rattle.part_words.specs.Words.{AreFilled}

-- a name has a cell that keeps its last value before the moment, and no value of the row
pub record IsKeptFor (s : Setting) (S : Assignment) (m : ℕ) (row : Row) (sight : Sight) (cells : List Cell) (x : ℕ) : Type 0 where
  pub cell : Cell
  pub found : cell_in sight.places cells x ≡ Some cell
  pub keeps : KeepsLast s S m x cell
  pub fresh : row x ≡ None

-- what keys ask for is told of a moment: the last values of names, and values and last values at the moment before
pub record AreKeysShown (s : Setting) (S : Assignment) (m : ℕ) (row : Row) (sight : Sight) (cells : List Cell) (keys : List CellKey) : Type 0 where
  pub value : (x c : ℕ) → cell_of keys (key.Value x) ≡ Some c → IsKeptFor s S m row sight cells x
  pub previous : (x c : ℕ) → cell_of keys (key.Previous x) ≡ Some c → IsKeptFor s S m row sight cells x
  pub left : (x c k : ℕ) → cell_of keys (key.Left x) ≡ Some c → m ≡ suc k → value_in sight.left.now x ≡ S x k
  pub left_last : (x c : ℕ) → cell_of keys (key.LeftLast x) ≡ Some c → slice_get sight.left.last x ≡ previous_value (name_ticks s S x) (S x) (start_of s x) m

-- the words are set for the moment, and what they show of a clock that ticks is shown by its place
abbrev pub WordsLaw : Type 0
WordsLaw = (s : Setting) (S : Assignment) (m : ℕ) (row : Row) (sight : Sight) (cells : List Cell) (keys : List CellKey) (words : List ℤ) → AreWhole keys → AreKeysShown s S m row sight cells keys → AreFilled sight cells keys words → (place : ℕ)
    → IsSet s S m row (keyed_cells keys s.model.names place) (length keys) words
    × ((class : ℕ) (clock : ClockNow) → slice_get sight.clocks place ≡ Some clock → clock.ticks ≡ true → IsClockShown s S m row (Some class) clock → IsClockSet s S m class (keyed_cells keys s.model.names place) (length keys) words)
