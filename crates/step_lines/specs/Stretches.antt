-- Several equations as one stretch of code.
use Rattle.std.specs.Prelude.{◌≡◌, ℕ, suc, ◌+◌, Bool, ℤ, List, [], ◌∷◌, length, map, drop, Option, Some, None, Result, Ok, Err, nat_lt, if◌then◌else◌, slice_get}
use Rattle.std.specs.List.{list_all}
use Rattle.flat_model.specs.Views.{Views}
use Rattle.step_code.specs.declared.compile.NoCode.{NoCode}
use Rattle.step_code.specs.Code.{Cells, piece_of}
use Rattle.step_code.specs.Correct.{AreTruths}
use Rattle.step_code.specs.Emits.{IsRefused}
use Rattle.step_code.specs.Lines.{Line, lines_code, Ended, All, Failed, Missing, lines_end, Holds, AreApart, AreLines, IsKeptBut}
use Rattle.step_lines.specs.declared.running.Failing.{Failing}
use Rattle.step_lines.specs.declared.stretch.Line as given
use Rattle.step_lines.specs.declared.stretch.Stretch.{Stretch}

-- an equation without the places in memory
abbrev pub line_of : given.Line → Line
line_of line = record { name = line.name; cell = line.cell; side = line.side.now }

abbrev pub lines_of : List given.Line → List Line
lines_of lines = map line_of lines

-- for each equation how many instructions there are from its first one on
abbrev pub marks_of : Cells → ℕ → List Line → List ℕ
marks_of at t [] = []
marks_of at t (l ∷ ls) = length (lines_code at t (l ∷ ls)) ∷ marks_of at t ls

-- a stretch has the code of these equations
pub record IsStretch (at : Cells) (t : ℕ) (ls : List Line) (stretch : Stretch) : Type 0 where
  pub code : stretch.code.items ≡ lines_code at t ls
  pub marks : stretch.marks.items ≡ marks_of at t ls

-- the sides of all equations are known
abbrev pub are_known : Cells → List Line → Bool
are_known at ls = list_all (λ l. (piece_of at l.side).known) ls

-- what the preparation of equations answers
abbrev pub Prepares : Cells → ℕ → List Line → Result Stretch NoCode → Type 0
Prepares at t ls (Ok stretch) = IsStretch at t ls stretch
Prepares at t ls (Err kind) = IsRefused (are_known at ls) (t + length (lines_code at t ls)) kind

-- the place of the last mark that is above this number, or the first place
abbrev pub place_in : List ℕ → ℕ → ℕ
place_in (m ∷ n ∷ marks) left = if nat_lt left n then suc (place_in (n ∷ marks) left) else 0
place_in _ left = 0

-- the equation at a place is this line, with these behind it
pub record IsFailing (ls : List Line) (line : Line) (behind : List Line) (place : ℕ) : Type 0 where
  pub found : slice_get ls place ≡ Some line
  pub rest : drop (suc place) ls ≡ behind

-- a run of equations ends as they do: the cells hold all values, or those before the first that fails, and no other cells below the free ones changed
abbrev pub EndsAs : Cells → ℕ → List ℤ → List ℤ → List Line → Ended → Option Failing → Type 0
EndsAs at t old cells ls (All views) result = (result ≡ None) × Holds at cells t views × IsKeptBut t ls old cells
EndsAs at t old cells ls (Failed views kind line behind) result = (failing : Failing) × (result ≡ Some failing) × (failing.kind ≡ kind) × IsFailing ls line behind failing.place × Holds at cells t views × IsKeptBut t ls old cells
EndsAs at t old cells ls Missing result = Unit {0}

-- what a run of a stretch does, whatever equations it has the code of and whatever views the cells hold
abbrev pub RunsLines : Stretch → List ℤ → List ℤ → Option Failing → Type 0
RunsLines stretch old new result = (at : Cells) (t : ℕ) (ls : List Line) → IsStretch at t ls stretch → AreApart at → (views : Views) → AreTruths at views → AreLines at t views ls → Holds at old t views
    → EndsAs at t old new ls (lines_end ls views) result
