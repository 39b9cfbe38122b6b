-- What the cells of a part hold after a run of a stretch. This project's own.
use Rattle.std.specs.Prelude.{◌≡◌, ℕ, ℤ, List, ◌++◌, Some}
use Rattle.flat_model.specs.Assignment.{Assignment}
use Rattle.flat_model.specs.Given.{Row}
use Rattle.flat_model.specs.Setting.{Setting}
use Rattle.flat_model.specs.Uses.{Use}
use Rattle.moment_theory.specs.Free.{IsOrdered}
use Rattle.step_code.specs.Code.{Cells}
use Rattle.step_code.specs.Lines.{Line, AreApart, IsNoCell, IsKeptBut}
use Rattle.side_theory.specs.Counted.{Begins}
use Rattle.side_theory.specs.Kept.{IsSet, IsClockSet}
use Rattle.side_theory.specs.Runs.{AreCelled, AllTaken}
use Rattle.side_theory.specs.Stretches.{AreLinesOf}

-- no line has a cell of what is told of a clock
pub record AreNoClockCells (at : Cells) (ls : List Line) : Type 0 where
  pub first : (c : ℕ) → (at 0).first ≡ Some c → IsNoCell c ls
  pub interval : (n c : ℕ) → (at 0).interval n ≡ Some c → IsNoCell c ls × IsNoCell ((at 0).unfit n) ls

-- cells that were set over a row are so over the row that a stretch left, whose uses were all taken; and so is what they tell of any clock
abbrev pub SetOnLaw : Type 0
SetOnLaw = (s : Setting) (uses before entries after : List Use) → IsOrdered s uses (before ++ (entries ++ after)) → (class : ℕ) (ls : List Line) → AreLinesOf s uses class entries ls
    → (at : Cells) (t : ℕ) → AreApart at → AreCelled at t ls → (S : Assignment) (m : ℕ) (row : Row) → Begins s S m row class before
    → (old new : List ℤ) → IsSet s S m row at t old → IsKeptBut t ls old new
    → ((all : AllTaken s uses before entries S m row class at t new) → IsSet s S m all.last at t new)
    × ((other : ℕ) (there : Cells) → AreNoClockCells there ls → IsClockSet s S m other there t old → IsClockSet s S m other there t new)
