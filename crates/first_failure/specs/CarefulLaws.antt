-- The careful run tells the least equation of a base partition that fails. This project's own.
use Rattle.std.specs.Prelude.{◌≡◌, ◌≢◌, ℕ, ◌<◌, true, Bool, ℤ, List, [], ◌∷◌, ◌++◌, length, Option, Some, None, Contains}
use Rattle.flat_model.specs.Assignment.{Assignment}
use Rattle.flat_model.specs.Given.{Row, with_row}
use Rattle.flat_model.specs.Setting.{Setting, class_ticks}
use Rattle.flat_model.specs.Uses.{Use, Reads}
use Rattle.moment_theory.specs.Free.{IsOrdered}
use Rattle.moment_theory.specs.Sound.{IsSound, IsClear}
use Rattle.moment_theory.specs.Taken.{AreTaken}
use Rattle.step_code.specs.Code.{Cells}
use Rattle.step_code.specs.Lines.{Line}
use Rattle.side_theory.specs.Kept.{IsSet, IsClockSet}
use Rattle.side_theory.specs.Typed.{AreValuedBefore, IsTypedRow}
use Rattle.part_stretches.specs.Parts.{AreAlike}
use Rattle.part_stretches.specs.Running.{tick_in}
use Rattle.first_failure.specs.declared.careful.LoneLine.{LoneLine}
use Rattle.first_failure.specs.declared.least.EquationFailing.{EquationFailing}
use Rattle.first_failure.specs.Careful.{RunsEach}
use Rattle.first_failure.specs.Lone.{IsLone}
use Rattle.first_failure.specs.Ready.{IsReadable}
use Rattle.first_failure.specs.Turns.{FailsAmong, IsLeast}

-- what a prepared line is the code of: a use, its line, and the cells as an equation of its class has them
pub record Source : Type 0 where
  pub entry : Use
  pub line : Line
  pub at : Cells

abbrev pub entries_of : List Source → List Use
entries_of [] = []
entries_of (source ∷ sources) = source.entry ∷ entries_of sources

-- a prepared line is that of a use, and lists the cells of the other names that the equation reads now
pub record IsSource (s : Setting) (uses : List Use) (common : Cells) (t : ℕ) (one : LoneLine) (source : Source) : Type 0 where
  pub equation : one.equation ≡ source.entry.equation
  pub cell : one.cell ≡ source.line.cell
  pub alike : AreAlike common source.at
  pub lone : IsLone s uses one.class source.entry source.at t source.line one.stretch
  pub reads : (y : ℕ) → y ≢ source.entry.name → Reads s source.entry.equation y → (c : ℕ) × ((common 0).now y ≡ Some c) × Contains one.reads.items c
  pub only : (c : ℕ) → Contains one.reads.items c → (y : ℕ) × (y ≢ source.entry.name) × Reads s source.entry.equation y × ((common 0).now y ≡ Some c)

abbrev pub AreSources : Setting → List Use → Cells → ℕ → List LoneLine → List Source → Type 0
AreSources s uses common t [] [] = Unit {0}
AreSources s uses common t (one ∷ rest) (source ∷ sources) = IsSource s uses common t one source × AreSources s uses common t rest sources
AreSources s uses common t _ _ = ⊥

-- it is told of each line whether its class ticks, and where it does its clock's cells are set
abbrev pub AreTicked : Setting → Assignment → ℕ → Row → List Bool → ℕ → List ℤ → List LoneLine → List Source → Type 0
AreTicked s S m row ticking t cells (one ∷ rest) (source ∷ sources) =
    ((tick_in ticking one.class ≡ class_ticks s (with_row S m row) (Some one.class) m) × (tick_in ticking one.class ≡ true → IsClockSet s S m one.class source.at t cells)) × AreTicked s S m row ticking t cells rest sources
AreTicked s S m row ticking t cells _ _ = Unit {0}

-- the cells of names that can be read over a row are marked, and no cells of others
pub record AreMarked (s : Setting) (S : Assignment) (m : ℕ) (row : Row) (common : Cells) (marks : List Bool) : Type 0 where
  pub within : (y c : ℕ) → (common 0).now y ≡ Some c → c < length marks
  pub readable : (y c : ℕ) → (common 0).now y ≡ Some c → tick_in marks c ≡ true → IsReadable s S m row y
  pub marked : (y c : ℕ) → (common 0).now y ≡ Some c → IsReadable s S m row y → tick_in marks c ≡ true

-- a careful run starts over a row: names have values before the moment, the row is typed and sound and has no value of the uses, cells are set, and readable ones are marked
pub record IsStart (s : Setting) (S : Assignment) (m : ℕ) (row : Row) (entries : List Use) (common : Cells) (t : ℕ) (cells : List ℤ) (marks : List Bool) : Type 0 where
  pub meets : AreValuedBefore s S m
  pub typed : IsTypedRow s row
  pub sound : IsSound s (with_row S m row) m
  pub clear : IsClear entries row
  pub set : IsSet s S m row common t cells
  pub marked : AreMarked s S m row common marks

-- the careful run takes the uses of its lines, and tells the least of their equations that fails over the row that they leave, or that none fails
abbrev pub CarefulLaw : Type 0
CarefulLaw = (s : Setting) (uses before after : List Use) (sources : List Source) → IsOrdered s uses (before ++ (entries_of sources ++ after)) → (common : Cells) (t : ℕ) (lines : List LoneLine) → AreSources s uses common t lines sources
    → (S : Assignment) (m : ℕ) (row : Row) (ticking marks marked : List Bool) (old new : List ℤ) (result : Option EquationFailing) → IsStart s S m row (entries_of sources) common t old marks → AreTicked s S m row ticking t old lines sources
    → RunsEach ticking lines (record { marks = marks; cells = old; told = None }) (record { marks = marked; cells = new; told = result })
    → (last : Row) × AreTaken s S m (entries_of sources) row last × IsSet s S m last common t new × IsLeast (FailsAmong s uses S m (entries_of sources) last) result
