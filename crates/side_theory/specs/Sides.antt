-- What the side of an equation `name = side` or `side = name` tells of its use. This project's own.
use Rattle.std.specs.Prelude.{◌≡◌, ℕ, Bool, true, false, List, Option, Some, slice_get, Contains}
use Rattle.flat_model.specs.declared.equation.Equation.{Equation}
use Rattle.flat_model.specs.declared.equation.Equation.TheVariants.{Valued}
use Rattle.flat_model.specs.declared.expression.Expr.{Expr}
use Rattle.flat_model.specs.declared.expression.Expr.TheVariants.{Read}
use Rattle.flat_model.specs.declared.model.FlatName.{FlatName}
use Rattle.flat_model.specs.declared.model.NameKind.{NameKind}
use Rattle.flat_model.specs.Assignment.{Assignment, IsOfKind}
use Rattle.flat_model.specs.Faults.{EquationFails}
use Rattle.flat_model.specs.Given.{Row, with_row, CanUse}
use Rattle.flat_model.specs.Meaning.{value_of}
use Rattle.flat_model.specs.Operators.{Answer, Is, Fails, Absent}
use Rattle.flat_model.specs.Runnable.{IsRunnable}
use Rattle.flat_model.specs.Setting.{Setting, class_of_equation, views_at}
use Rattle.flat_model.specs.Uses.{Use, AreUses}
use Rattle.moment_theory.specs.Taken.{Gives}

-- an equation between a name and a side, with the name first or last
abbrev pub sided : Bool → ℕ → Expr → Option ℕ → Equation
sided true x side clause = Valued (Read x) side clause
sided false x side clause = Valued side (Read x) clause

-- the equation of a use is `name = side` or `side = name`, and of a class
pub record IsSideUse (s : Setting) (entry : Use) (side : Expr) (class : ℕ) : Type 0 where
  pub clause : Option ℕ
  pub first : Bool
  pub found : slice_get s.model.equations entry.equation ≡ Some (sided first entry.name side clause)
  pub class_is : class_of_equation s entry.equation ≡ Some class

-- a value of the type, or a failure
abbrev pub IsAnswerOfKind : NameKind → Answer → Type 0
IsAnswerOfKind kind (Is v) = IsOfKind kind v
IsAnswerOfKind kind (Fails reason) = Unit {0}
IsAnswerOfKind kind Absent = ⊥

-- a use that counts over a row, and whose side answers there with a value of the name's type or fails
pub record Counts (s : Setting) (S : Assignment) (m : ℕ) (row : Row) (entry : Use) (side : Expr) (class : ℕ) : Type 0 where
  pub equation : Equation
  pub name : FlatName
  pub can : CanUse s (with_row S m row) m entry equation name
  pub typed : IsAnswerOfKind name.kind (value_of side (views_at s (with_row S m row) (Some class) m))

-- what a use does over a row whose side answers so
abbrev pub DoesAs : Setting → List Use → Assignment → ℕ → Row → Use → Answer → Type 0
DoesAs s uses S m row entry (Is v) = Gives s S m row entry v
DoesAs s uses S m row entry (Fails kind) = EquationFails s (with_row S m row) uses m entry.equation kind
DoesAs s uses S m row entry Absent = ⊥

-- a use that counts gives the value of its side, or fails as it does
abbrev pub SideLaw : Type 0
SideLaw = (s : Setting) (uses : List Use) → IsRunnable s → AreUses s uses → (entry : Use) (side : Expr) (class : ℕ) → Contains uses entry → IsSideUse s entry side class
    → (S : Assignment) (m : ℕ) (row : Row) → Counts s S m row entry side class → DoesAs s uses S m row entry (value_of side (views_at s (with_row S m row) (Some class) m))
