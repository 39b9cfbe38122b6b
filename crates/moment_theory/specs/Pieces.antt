-- Pieces of the uses of a moment that need nothing of each other. This project's own.
use Rattle.std.specs.Prelude.{◌≡◌, ◌≢◌, ℕ, ◌⊎◌, List, Option, Some, slice_get, Contains}
use Rattle.flat_model.specs.Assignment.{Assignment}
use Rattle.flat_model.specs.Given.{Row}
use Rattle.flat_model.specs.Setting.{Setting}
use Rattle.flat_model.specs.Uses.{Use, Reads, SiteReads}
use Rattle.moment_theory.specs.Division.{joined}
use Rattle.moment_theory.specs.Free.{AsksClass, IsReachedBy}
use Rattle.moment_theory.specs.Taken.{AreTaken}

-- the value of y decides whether a use counts, or what it gives: the use reads y beside its own name, or the condition of a site reads y whose tick the use asks for
abbrev pub Needs : Setting → Use → ℕ → Type 0
Needs s entry y = ((y ≢ entry.name) × Reads s entry.equation y) ⊎ ((class : Option ℕ) × AsksClass s entry.equation class × SiteReads s class y)

-- no piece needs or reaches what another reaches
abbrev pub AreApart : Setting → List (List Use) → Type 0
AreApart s pieces = (i j : ℕ) (piece other : List Use) (entry : Use) (y : ℕ) → i ≢ j → slice_get pieces i ≡ Some piece → slice_get pieces j ≡ Some other
    → Contains piece entry → (y ≡ entry.name) ⊎ Needs s entry y → IsReachedBy y other → ⊥

-- each piece was taken by itself from one base, and gave a row of its own
abbrev pub AreTakenAlone : Setting → Assignment → ℕ → Row → (ℕ → Row) → List (List Use) → Type 0
AreTakenAlone s S m base owns pieces = (i : ℕ) (piece : List Use) → slice_get pieces i ≡ Some piece → AreTaken s S m piece base (owns i)

-- a row with the values that each piece reached, and those of the base elsewhere
pub record AreBeside (base : Row) (owns : ℕ → Row) (pieces : List (List Use)) (row : Row) : Type 0 where
  pub own : (i : ℕ) (piece : List Use) (y : ℕ) → slice_get pieces i ≡ Some piece → IsReachedBy y piece → row y ≡ owns i y
  pub rest : (y : ℕ) → (IsReachedBy y (joined pieces) → ⊥) → row y ≡ base y
