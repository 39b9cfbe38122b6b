-- What a row must be to take uses from it.
use Rattle.std.specs.Prelude.{◌≡◌, ℕ, List, Option, None, IsSome}
use Rattle.sync_values.specs.declared.value.Value.{Value}
use Rattle.sync_values.specs.declared.value.Fail.{Fail}
use Rattle.flat_model.specs.Assignment.{Assignment}
use Rattle.flat_model.specs.Faults.{EquationFails}
use Rattle.flat_model.specs.Given.{Row, with_row, IsKnownToTick}
use Rattle.flat_model.specs.Setting.{Setting, class_of_name}
use Rattle.flat_model.specs.Uses.{Use, SiteReads}
use Rattle.moment_theory.specs.Free.{AsksClass, IsReachedBy}
use Rattle.moment_theory.specs.Pieces.{Needs}
use Rattle.moment_theory.specs.Taken.{Gives}

-- each value at m is of a name that is unclocked, or whose clock is known to tick
abbrev pub IsSound : Setting → Assignment → ℕ → Type 0
IsSound s S m = (x : ℕ) → IsSome (S x m) → IsKnownToTick s S m (class_of_name s x)

-- a row has no value of what is still to be reached
abbrev pub IsClear : List Use → Row → Type 0
IsClear uses row = (y : ℕ) → IsReachedBy y uses → row y ≡ None

-- no site whose tick a use asks for waits for the use itself
abbrev pub WaitsForNoOwn : Setting → Use → Type 0
WaitsForNoOwn s entry = (class : Option ℕ) → AsksClass s entry.equation class → SiteReads s class entry.name → ⊥

-- two rows have the same of all that decides whether a use counts and what it gives
abbrev pub AgreeOnNeeds : Setting → Use → Row → Row → Type 0
AgreeOnNeeds s entry a b = (y : ℕ) → Needs s entry y → a y ≡ b y

-- a use gives over one row what it gives over another, and fails over it alike
pub record DoesAlike (s : Setting) (uses : List Use) (S : Assignment) (m : ℕ) (entry : Use) (a b : Row) : Type 0 where
  pub gives : (v : Value) → Gives s S m a entry v → Gives s S m b entry v
  pub fails : (kind : Fail) → EquationFails s (with_row S m a) uses m entry.equation kind → EquationFails s (with_row S m b) uses m entry.equation kind
