-- A model has an order: its uses reach every name and take every equation. This project's own.
use Rattle.std.specs.Prelude.{◌≡◌, ℕ, List, Option, Some, slice_get, Contains}
use Rattle.flat_model.specs.declared.expression.Expr.{Expr}
use Rattle.flat_model.specs.declared.equation.Equation.TheVariants.{Valued}
use Rattle.flat_model.specs.Setting.{Setting}
use Rattle.flat_model.specs.Uses.{Use, IsUnreached, AreUses, used_equations}

-- an equation between values that no use takes
abbrev pub IsUnused : Setting → List Use → ℕ → Type 0
IsUnused s uses i = (left : Expr) × (right : Expr) × (clause : Option ℕ) × (slice_get s.model.equations i ≡ Some (Valued left right clause))
    × (Contains (used_equations uses) i → ⊥)

-- the uses of a model, where they reach all names and take all equations
pub record IsOrder (s : Setting) (uses : List Use) : Type 0 where
  pub uses_are : AreUses s uses
  pub reached : (x : ℕ) → IsUnreached s uses x → ⊥
  pub used : (i : ℕ) → IsUnused s uses i → ⊥
