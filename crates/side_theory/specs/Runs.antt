-- What a run of a stretch of code does to the uses of a moment. This project's own.
use Rattle.std.specs.Prelude.{◌≡◌, ℕ, true, ℤ, List, [], ◌∷◌, ◌++◌, Option, Some, None, slice_get}
use Rattle.flat_model.specs.declared.model.NameKind.TheVariants.{Boolean}
use Rattle.flat_model.specs.Assignment.{Assignment}
use Rattle.flat_model.specs.Faults.{EquationFails}
use Rattle.flat_model.specs.Given.{Row, with_row}
use Rattle.flat_model.specs.Setting.{Setting, partition_of, class_ticks, views_at}
use Rattle.flat_model.specs.Typing.{types_in}
use Rattle.flat_model.specs.Uses.{Use}
use Rattle.moment_theory.specs.Free.{IsOrdered}
use Rattle.moment_theory.specs.Sound.{IsClear}
use Rattle.moment_theory.specs.Taken.{AreTaken}
use Rattle.step_code.specs.Code.{Cells}
use Rattle.step_code.specs.Lines.{Line, Holds, AreApart, IsLine, IsKeptBut}
use Rattle.step_lines.specs.declared.running.Failing.{Failing}
use Rattle.step_lines.specs.declared.stretch.Stretch.{Stretch}
use Rattle.step_lines.specs.Stretches.{IsStretch, RunsLines}
use Rattle.side_theory.specs.Counted.{Begins}
use Rattle.side_theory.specs.Stretches.{AreLinesOf}

-- each line has a cell and is known
abbrev pub AreCelled : Cells → ℕ → List Line → Type 0
AreCelled at t [] = Unit {0}
AreCelled at t (l ∷ ls) = IsLine at t l × AreCelled at t ls

-- the names that are marked as truth values are Booleans
abbrev pub AreBooleans : Setting → Cells → Type 0
AreBooleans s at = (k x : ℕ) → (at k).truth x ≡ true → types_in s.model.names x ≡ Some Boolean

-- the cells hold what an equation of the class can read at the moment, over a row
abbrev pub HoldsRow : Setting → Assignment → ℕ → Row → ℕ → Cells → ℕ → List ℤ → Type 0
HoldsRow s S m row class at t cells = Holds at cells t (views_at s (with_row S m row) (Some class) m)

-- all uses of a stretch were taken: the cells hold the row that they left, and a stretch of any class of the base partition that ticks begins with it
pub record AllTaken (s : Setting) (uses before entries : List Use) (S : Assignment) (m : ℕ) (row : Row) (class : ℕ) (at : Cells) (t : ℕ) (new : List ℤ) : Type 0 where
  pub last : Row
  pub taken : AreTaken s S m entries row last
  pub holds : HoldsRow s S m last class at t new
  pub begins : (other : ℕ) → partition_of s (Some other) ≡ partition_of s (Some class) → class_ticks s (with_row S m row) (Some other) m ≡ true → Begins s S m last other (before ++ entries)

-- the use at this place of a stretch was the first to fail: those before it were taken, and over the row that they left its equation fails so
pub record OneFailed (s : Setting) (uses entries : List Use) (S : Assignment) (m : ℕ) (row : Row) (failing : Failing) : Type 0 where
  pub done : List Use
  pub entry : Use
  pub rest : List Use
  pub entries_are : entries ≡ done ++ entry ∷ rest
  pub place : slice_get entries failing.place ≡ Some entry
  pub last : Row
  pub taken : AreTaken s S m done row last
  pub fails : EquationFails s (with_row S m last) uses m entry.equation failing.kind

-- the uses of a stretch after its run
abbrev pub StretchTaken : Setting → List Use → List Use → List Use → Assignment → ℕ → Row → ℕ → Cells → ℕ → List ℤ → Option Failing → Type 0
StretchTaken s uses before entries S m row class at t new None = AllTaken s uses before entries S m row class at t new
StretchTaken s uses before entries S m row class at t new (Some failing) = OneFailed s uses entries S m row failing

-- over cells that hold a row a run of the code of a stretch takes its uses, or tells the first that fails; no other cells below the free ones change
abbrev pub RunLaw : Type 0
RunLaw = (s : Setting) (uses before entries after : List Use) → IsOrdered s uses (before ++ (entries ++ after)) → (class : ℕ) (ls : List Line) → AreLinesOf s uses class entries ls
    → (at : Cells) (t : ℕ) (stretch : Stretch) → IsStretch at t ls stretch → AreApart at → AreCelled at t ls → AreBooleans s at
    → (S : Assignment) (m : ℕ) (row : Row) → Begins s S m row class before → IsClear entries row
    → (old new : List ℤ) (result : Option Failing) → HoldsRow s S m row class at t old → RunsLines stretch old new result
    → StretchTaken s uses before entries S m row class at t new result × IsKeptBut t ls old new
