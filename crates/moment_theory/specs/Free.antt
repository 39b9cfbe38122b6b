-- The order in which the uses of a moment may be taken. This project's own.
use Rattle.std.specs.Prelude.{◌≡◌, ℕ, ◌<◌, ◌⊎◌, List, [], ◌∷◌, Option, Some, slice_get, Contains}
use Rattle.flat_model.specs.declared.equation.Equation.{Equation}
use Rattle.flat_model.specs.declared.equation.Equation.TheVariants.{Valued, Clocks}
use Rattle.flat_model.specs.declared.expression.Expr.{Expr}
use Rattle.flat_model.specs.Occurrences.{held_count, converted_count}
use Rattle.flat_model.specs.Order.{IsOrder}
use Rattle.flat_model.specs.Runnable.{IsRunnable}
use Rattle.flat_model.specs.Setting.{Setting, class_of_name, class_of_equation}
use Rattle.flat_model.specs.Uses.{Use, Reads, SiteReads}

-- one of these uses reaches the name
abbrev pub IsReachedBy : ℕ → List Use → Type 0
IsReachedBy y [] = ⊥
IsReachedBy y (entry ∷ uses) = (y ≡ entry.name) ⊎ IsReachedBy y uses

-- the name is the argument of `hold` or of a conversion in an expression
abbrev pub AsksLastIn : Expr → ℕ → Type 0
AsksLastIn e z = (0 < held_count z e) ⊎ (0 < converted_count z e)

abbrev pub AsksLast : Equation → ℕ → Type 0
AsksLast (Valued left right clause) z = AsksLastIn left z ⊎ AsksLastIn right z
AsksLast (Clocks left right clause) z = ⊥

-- a use of equation i asks whether a class ticks: its own class, or that of a name under `hold` or a conversion
abbrev pub AsksClass : Setting → ℕ → Option ℕ → Type 0
AsksClass s i class = (class ≡ class_of_equation s i)
    ⊎ ((equation : Equation) × (z : ℕ) × (slice_get s.model.equations i ≡ Some equation) × AsksLast equation z × (class ≡ class_of_name s z))

-- a use may be taken before these: they reach nothing that it reads, no site whose tick it asks for waits for it or for them, and none reaches its name again
pub record IsFree (s : Setting) (entry : Use) (later : List Use) : Type 0 where
  pub reads : (y : ℕ) → Reads s entry.equation y → IsReachedBy y later → ⊥
  pub sites : (class : Option ℕ) (y : ℕ) → AsksClass s entry.equation class → SiteReads s class y → IsReachedBy y (entry ∷ later) → ⊥
  pub once : IsReachedBy entry.name later → ⊥

-- a free order: each use may be taken before those behind it
abbrev pub AreFree : Setting → List Use → Type 0
AreFree s [] = Unit {0}
AreFree s (entry ∷ later) = IsFree s entry later × AreFree s later

-- two lists have the same uses, in whatever order
pub record AreSameUses (uses order : List Use) : Type 0 where
  pub all : (entry : Use) → Contains uses entry → Contains order entry
  pub only : (entry : Use) → Contains order entry → Contains uses entry

-- a runnable setting, its uses, and a free order of them
pub record IsOrdered (s : Setting) (uses order : List Use) : Type 0 where
  pub runs : IsRunnable s
  pub uses_are : IsOrder s uses
  pub same : AreSameUses uses order
  pub free : AreFree s order
