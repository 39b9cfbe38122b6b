-- What the run of one line by itself does to its use. This project's own.
use Rattle.std.specs.Prelude.{◌≡◌, ℕ, true, ℤ, List, [], ◌∷◌, ◌++◌, Option, Some, None}
use Rattle.sync_values.specs.declared.value.Value.{Value}
use Rattle.flat_model.specs.Assignment.{Assignment}
use Rattle.flat_model.specs.Faults.{EquationFails}
use Rattle.flat_model.specs.Given.{Row, with_row}
use Rattle.flat_model.specs.Setting.{Setting, class_ticks}
use Rattle.flat_model.specs.Uses.{Use}
use Rattle.moment_theory.specs.Free.{IsOrdered}
use Rattle.moment_theory.specs.Taken.{put, Gives}
use Rattle.step_code.specs.Code.{Cells}
use Rattle.step_code.specs.Lines.{Line, AreApart, IsKeptBut}
use Rattle.step_lines.specs.declared.running.Failing.{Failing}
use Rattle.step_lines.specs.declared.stretch.Stretch.{Stretch}
use Rattle.step_lines.specs.Stretches.{IsStretch, RunsLines}
use Rattle.side_theory.specs.Kept.{IsLaidOut, IsSet, IsClockSet}
use Rattle.side_theory.specs.Runs.{AreCelled, AreBooleans}
use Rattle.side_theory.specs.Stretches.{AreLinesOf}
use Rattle.side_theory.specs.Typed.{AreValuedBefore, IsTypedRow}
use Rattle.first_failure.specs.Ready.{HasAllReads}

-- a stretch has the code of one line alone, that of a use of a class, with these cells
pub record IsLone (s : Setting) (uses : List Use) (class : ℕ) (entry : Use) (at : Cells) (t : ℕ) (line : Line) (stretch : Stretch) : Type 0 where
  pub stretch_is : IsStretch at t (line ∷ []) stretch
  pub lines : AreLinesOf s uses class (entry ∷ []) (line ∷ [])
  pub apart : AreApart at
  pub celled : AreCelled at t (line ∷ [])
  pub booleans : AreBooleans s at
  pub laid : IsLaidOut at

-- a use is ready over a row, and the cells are set for it: names have values before the moment, the row is typed and has no value of the use's name, the class ticks, and all that the use reads can be read
pub record IsSetFor (s : Setting) (S : Assignment) (m : ℕ) (row : Row) (class : ℕ) (entry : Use) (at : Cells) (t : ℕ) (cells : List ℤ) : Type 0 where
  pub meets : AreValuedBefore s S m
  pub typed : IsTypedRow s row
  pub clear : row entry.name ≡ None
  pub ticks : class_ticks s (with_row S m row) (Some class) m ≡ true
  pub reads : HasAllReads s S m row entry
  pub set : IsSet s S m row at t cells
  pub clock : IsClockSet s S m class at t cells

-- the use gives a value, and the cells are set over the row with it; or its equation fails, and they are set over the row as it was
abbrev pub LoneEnds : Setting → List Use → Assignment → ℕ → Row → Use → Cells → ℕ → List ℤ → Option Failing → Type 0
LoneEnds s uses S m row entry at t new None = (v : Value) × Gives s S m row entry v × IsTypedRow s (put row entry.name v) × IsSet s S m (put row entry.name v) at t new
LoneEnds s uses S m row entry at t new (Some failing) = EquationFails s (with_row S m row) uses m entry.equation failing.kind × IsSet s S m row at t new

-- so a run of a line that is ready does what its use does, whatever failed before; no other cell below the free ones changes
abbrev pub LoneLaw : Type 0
LoneLaw = (s : Setting) (uses before after : List Use) (entry : Use) → IsOrdered s uses (before ++ entry ∷ after) → (class : ℕ) (at : Cells) (t : ℕ) (line : Line) (stretch : Stretch) → IsLone s uses class entry at t line stretch
    → (S : Assignment) (m : ℕ) (row : Row) (old new : List ℤ) (stop : Option Failing) → IsSetFor s S m row class entry at t old → RunsLines stretch old new stop
    → LoneEnds s uses S m row entry at t new stop × IsKeptBut t (line ∷ []) old new
