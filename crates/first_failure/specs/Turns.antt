-- Which equations of several uses fail, each at the turn of its use and over the last row. This project's own.
use Rattle.std.specs.Prelude.{◌≡◌, ◌↔◌, ℕ, ◌<◌, List, ◌∷◌, ◌++◌, Option, Some, None, Contains}
use Rattle.sync_values.specs.declared.value.Fail.{Fail}
use Rattle.flat_model.specs.Assignment.{Assignment}
use Rattle.flat_model.specs.Faults.{EquationFails}
use Rattle.flat_model.specs.Given.{Row, with_row}
use Rattle.flat_model.specs.Setting.{Setting}
use Rattle.flat_model.specs.Uses.{Use, AreUses}
use Rattle.moment_theory.specs.Free.{IsOrdered}
use Rattle.moment_theory.specs.Sound.{IsSound, IsClear}
use Rattle.moment_theory.specs.Taken.{AreTaken}
use Rattle.first_failure.specs.declared.least.EquationFailing.{EquationFailing}

-- the turn of a use on the way from one row to another: those before it lead to the row of its turn, it and those behind it from there to the last
pub record IsTurn (s : Setting) (S : Assignment) (m : ℕ) (entries : List Use) (base last : Row) (entry : Use) (turn : Row) : Type 0 where
  pub done : List Use
  pub rest : List Use
  pub entries_are : entries ≡ done ++ entry ∷ rest
  pub before : AreTaken s S m done base turn
  pub behind : AreTaken s S m (entry ∷ rest) turn last

-- equation i is that of one of these uses, and fails at its turn
abbrev pub FailsAtTurn : Setting → List Use → Assignment → ℕ → List Use → Row → Row → ℕ → Fail → Type 0
FailsAtTurn s uses S m entries base last i kind =
    (entry : Use) × (turn : Row) × IsTurn s S m entries base last entry turn × (entry.equation ≡ i) × EquationFails s (with_row S m turn) uses m i kind

-- equation i is that of one of these uses, and fails over a row
abbrev pub FailsAmong : Setting → List Use → Assignment → ℕ → List Use → Row → ℕ → Fail → Type 0
FailsAmong s uses S m entries row i kind = (entry : Use) × Contains entries entry × (entry.equation ≡ i) × EquationFails s (with_row S m row) uses m i kind

-- the least equation that fails is told with its kind, or none fails
abbrev pub IsLeast : (ℕ → Fail → Type 0) → Option EquationFailing → Type 0
IsLeast fails None = (i : ℕ) (kind : Fail) → fails i kind → ⊥
IsLeast fails (Some failing) = fails failing.equation failing.kind × ((i : ℕ) (kind : Fail) → i < failing.equation → fails i kind → ⊥)

-- uses of a free order, taken from a sound row that has no values of theirs: what fails at its turn fails over the last row, and the other way round; so the least that fails is the same
abbrev pub LeastLaw : Type 0
LeastLaw = (s : Setting) (uses before entries after : List Use) → IsOrdered s uses (before ++ (entries ++ after)) → (S : Assignment) (m : ℕ) (base last : Row) → IsSound s (with_row S m base) m → IsClear entries base
    → AreTaken s S m entries base last
    → ((i : ℕ) (kind : Fail) → FailsAtTurn s uses S m entries base last i kind ↔ FailsAmong s uses S m entries last i kind)
    × ((told : Option EquationFailing) → IsLeast (FailsAtTurn s uses S m entries base last) told → IsLeast (FailsAmong s uses S m entries last) told)

-- what is told over a row is one
abbrev pub OneToldLaw : Type 0
OneToldLaw = (s : Setting) (uses : List Use) → AreUses s uses → (S : Assignment) (m : ℕ) (entries : List Use) (row : Row) (one two : Option EquationFailing)
    → IsLeast (FailsAmong s uses S m entries row) one → IsLeast (FailsAmong s uses S m entries row) two → one ≡ two
