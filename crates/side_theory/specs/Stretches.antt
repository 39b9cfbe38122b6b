-- Several equations between a name and a side, of one class, one after the other. This project's own.
use Rattle.std.specs.Prelude.{◌≡◌, ℕ, List, [], ◌∷◌, ◌++◌, length, Some, Contains}
use Rattle.sync_values.specs.declared.value.Value.{Value}
use Rattle.sync_values.specs.declared.value.Fail.{Fail}
use Rattle.flat_model.specs.declared.expression.Expr.{Expr}
use Rattle.flat_model.specs.Asks.{Asking, OfNow, OfLast, OfPrevious, OfFirst, OfInterval, AsksFor}
use Rattle.flat_model.specs.Assignment.{Assignment}
use Rattle.flat_model.specs.Faults.{EquationFails}
use Rattle.flat_model.specs.Given.{Row, with_row}
use Rattle.flat_model.specs.Meaning.{value_of}
use Rattle.flat_model.specs.Operators.{Is}
use Rattle.flat_model.specs.Runnable.{IsRunnable}
use Rattle.flat_model.specs.Setting.{Setting, views_at}
use Rattle.flat_model.specs.Uses.{Use, AreUses}
use Rattle.flat_model.specs.Views.{Views}
use Rattle.moment_theory.specs.Taken.{put, AreTaken}
use Rattle.step_code.specs.Lines.{Line, Ended, All, Failed, Missing, lines_end}
use Rattle.side_theory.specs.Sides.{IsSideUse, Counts}

-- what is asked for is the same in two views
abbrev pub IsSameAt : Views → Views → ℕ → Asking → Type 0
IsSameAt v w back (OfNow x) = (v back).now x ≡ (w back).now x
IsSameAt v w back (OfLast x) = (v back).last x ≡ (w back).last x
IsSameAt v w back (OfPrevious x) = (v back).previous x ≡ (w back).previous x
IsSameAt v w back OfFirst = (v back).first ≡ (w back).first
IsSameAt v w back OfInterval = (v back).interval ≡ (w back).interval

-- views show all that a side asks for as it is over a row
abbrev pub Shows : Setting → Assignment → ℕ → Row → ℕ → Expr → Views → Type 0
Shows s S m row class side views = (back : ℕ) (asking : Asking) → AsksFor side back asking → IsSameAt views (views_at s (with_row S m row) (Some class) m) back asking

abbrev pub AreShown : Setting → Assignment → ℕ → Row → ℕ → List Line → Views → Type 0
AreShown s S m row class [] views = Unit {0}
AreShown s S m row class (l ∷ ls) views = Shows s S m row class l.side views × AreShown s S m row class ls views

-- the lines are those of the uses' equations, one for each
abbrev pub AreLinesOf : Setting → List Use → ℕ → List Use → List Line → Type 0
AreLinesOf s uses class [] [] = Unit {0}
AreLinesOf s uses class (entry ∷ entries) (l ∷ ls) = (Contains uses entry × (l.name ≡ entry.name) × IsSideUse s entry l.side class) × AreLinesOf s uses class entries ls
AreLinesOf s uses class _ _ = ⊥

-- each use counts at its turn, where those before it have the values of their sides
abbrev pub AreCounted : Setting → Assignment → ℕ → ℕ → Row → List Use → List Line → Type 0
AreCounted s S m class row (entry ∷ entries) (l ∷ ls) =
    Counts s S m row entry l.side class × ((v : Value) → value_of l.side (views_at s (with_row S m row) (Some class) m) ≡ Is v → AreCounted s S m class (put row entry.name v) entries ls)
AreCounted s S m class row _ _ = Unit {0}

-- where views have the values of one row, others have those of another
abbrev pub GoesTo : Views → Row → Views → Row → Type 0
GoesTo views row after last = (y : ℕ) → (views 0).now y ≡ row y → (after 0).now y ≡ last y

-- the first use to fail, which is that of the line that fails: those before it are taken, and over their row its equation fails
pub record FailsAt (s : Setting) (uses : List Use) (S : Assignment) (m : ℕ) (row : Row) (entries : List Use) (views after : Views) (kind : Fail) (line : Line) (behind : List Line) : Type 0 where
  pub done : List Use
  pub entry : Use
  pub rest : List Use
  pub entries_are : entries ≡ done ++ entry ∷ rest
  pub last : Row
  pub taken : AreTaken s S m done row last
  pub fails : EquationFails s (with_row S m last) uses m entry.equation kind
  pub name_is : line.name ≡ entry.name
  pub rest_is : length rest ≡ length behind
  pub goes : GoesTo views row after last

-- how the uses end, by the end of their lines: all are taken, or one fails
abbrev pub StretchEnds : Setting → List Use → Assignment → ℕ → Row → List Use → Views → Ended → Type 0
StretchEnds s uses S m row entries views (All after) = (last : Row) × AreTaken s S m entries row last × GoesTo views row after last
StretchEnds s uses S m row entries views (Failed after kind line behind) = FailsAt s uses S m row entries views after kind line behind
StretchEnds s uses S m row entries views Missing = ⊥

-- lines evaluated one after the other, each over the views with the values before it, take their uses, up to the first that fails
abbrev pub StretchLaw : Type 0
StretchLaw = (s : Setting) (uses : List Use) → IsRunnable s → AreUses s uses → (class : ℕ) (entries : List Use) (lines : List Line) → AreLinesOf s uses class entries lines
    → (S : Assignment) (m : ℕ) (row : Row) (views : Views) → AreCounted s S m class row entries lines → AreShown s S m row class lines views → StretchEnds s uses S m row entries views (lines_end lines views)
