-- Laws of the code of expressions and of equations.
use Rattle.std.specs.Prelude.{◌≡◌, ℕ, ◌<◌, ℤ, true, List, Some, length}
use Rattle.flat_model.specs.declared.expression.Expr.{Expr}
use Rattle.flat_model.specs.declared.model.NameKind.{NameKind}
use Rattle.flat_model.specs.Typing.{Types, type_of}
use Rattle.flat_model.specs.Views.{Views}
use Rattle.flat_model.specs.Meaning.{value_of}
use Rattle.step_code.specs.Machine.{AreWithin}
use Rattle.step_code.specs.Code.{Cells, piece_of}
use Rattle.step_code.specs.Correct.{Stands, AreTruths, Gives}
use Rattle.step_code.specs.Known.{AreMarked, has_cells}
use Rattle.step_code.specs.Lines.{Line, lines_code, lines_end, Holds, AreApart, AreLines, RunsAs}

-- the code of a known expression gives its value, seen from views that the cells stand for
abbrev pub CodeLaw : Type 0
CodeLaw = (at : Cells) (views : Views) → AreTruths at views → (e : Expr) → (piece_of at e).known ≡ true → (cells : List ℤ) (d t : ℕ) → d < t → Stands at cells d t views
    → AreWithin (length cells) ((piece_of at e).code d t) → Gives ((piece_of at e).code d t) cells d t d (value_of e views)

-- the code of several equations ends as the equations do
abbrev pub LinesLaw : Type 0
LinesLaw = (at : Cells) (t : ℕ) → AreApart at → (lines : List Line) (cells : List ℤ) (views : Views) → AreTruths at views → AreLines at t views lines → Holds at cells t views
    → AreWithin (length cells) (lines_code at t lines) → RunsAs at t lines (lines_code at t lines) cells (lines_end lines views)

-- a typed expression is known where all that it reads has cells, and the Boolean names are marked
abbrev pub KnownLaw : Type 0
KnownLaw = (types : Types) (at : Cells) → AreMarked types at → (e : Expr) (type : NameKind) → type_of types e ≡ Some type → has_cells at e ≡ true → (piece_of at e).known ≡ true
