-- The answers of sides are of the types of their names. This project's own.
use Rattle.std.specs.Prelude.{◌≡◌, ℕ, ◌<◌, List, Some, slice_get, Contains}
use Rattle.sync_values.specs.declared.value.Value.{Value}
use Rattle.flat_model.specs.declared.equation.Equation.{Equation}
use Rattle.flat_model.specs.declared.expression.Expr.{Expr}
use Rattle.flat_model.specs.declared.model.FlatName.{FlatName}
use Rattle.flat_model.specs.Assignment.{Assignment, IsOfKind}
use Rattle.flat_model.specs.Given.{Row, with_row, CanUse}
use Rattle.flat_model.specs.Meaning.{value_of}
use Rattle.flat_model.specs.Runnable.{IsRunnable}
use Rattle.flat_model.specs.Meets.{HasValueAtTicks, MeetsAt, MeetsBefore}
use Rattle.flat_model.specs.Setting.{Setting, views_at, name_ticks}
use Rattle.flat_model.specs.Uses.{Use, AreUses}
use Rattle.side_theory.specs.Sides.{IsSideUse, IsAnswerOfKind}

-- the values of a row are of the types of their names
abbrev pub IsTypedRow : Setting → Row → Type 0
IsTypedRow s row = (x : ℕ) (name : FlatName) (v : Value) → slice_get s.model.names x ≡ Some name → row x ≡ Some v → IsOfKind name.kind v

-- at m each name has a value of its type exactly where it ticks
pub record AreValuedAt (s : Setting) (S : Assignment) (m : ℕ) : Type 0 where
  pub names : (x : ℕ) (name : FlatName) → slice_get s.model.names x ≡ Some name → HasValueAtTicks name.kind (name_ticks s S x m) (S x m)

-- the same at every moment before n
abbrev pub AreValuedBefore : Setting → Assignment → ℕ → Type 0
AreValuedBefore s S n = (m : ℕ) → m < n → AreValuedAt s S m

-- what meets the model at a moment has values there
abbrev pub valued_at : (s : Setting) (S : Assignment) (m : ℕ) → MeetsAt s S m → AreValuedAt s S m
valued_at s S m meets = record { names = meets.names }

-- what meets the model before a moment has values before it
abbrev pub valued_before : (s : Setting) (S : Assignment) (n : ℕ) → MeetsBefore s S n → AreValuedBefore s S n
valued_before s S n meets m lt = valued_at s S m (meets m lt)

-- where names have values before a moment and the row is typed, the side of a use that counts has a value of the name's type or fails: no value that it asks for is absent
abbrev pub TypedLaw : Type 0
TypedLaw = (s : Setting) (uses : List Use) → IsRunnable s → AreUses s uses → (entry : Use) (side : Expr) (class : ℕ) → Contains uses entry → IsSideUse s entry side class
    → (S : Assignment) (m : ℕ) (row : Row) → AreValuedBefore s S m → IsTypedRow s row → (equation : Equation) (name : FlatName) → CanUse s (with_row S m row) m entry equation name
    → IsAnswerOfKind name.kind (value_of side (views_at s (with_row S m row) (Some class) m))
