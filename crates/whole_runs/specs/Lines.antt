-- Lines whose sides express what uses give, whatever the form of their equations. This project's own.
use Rattle.std.specs.Prelude.{◌≡◌, ℕ, List, [], ◌∷◌, Some, Contains}
use Rattle.sync_values.specs.declared.value.Value.{Value}
use Rattle.flat_model.specs.declared.equation.Equation.{Equation}
use Rattle.flat_model.specs.declared.expression.Expr.{Expr}
use Rattle.flat_model.specs.declared.model.FlatName.{FlatName}
use Rattle.flat_model.specs.Assignment.{Assignment}
use Rattle.flat_model.specs.Given.{Row, with_row, CanUse}
use Rattle.flat_model.specs.Meaning.{value_of}
use Rattle.flat_model.specs.Operators.{Is}
use Rattle.flat_model.specs.Setting.{Setting, class_of_equation, views_at}
use Rattle.flat_model.specs.Uses.{Use}
use Rattle.moment_theory.specs.Taken.{Gives}
use Rattle.step_code.specs.Lines.{Line}
use Rattle.side_theory.specs.Sides.{IsAnswerOfKind}
use Rattle.side_theory.specs.Typed.{AreValuedBefore, IsTypedRow}

-- a use counts over a typed row, where names have values before the moment
pub record IsCounted (s : Setting) (S : Assignment) (m : ℕ) (row : Row) (entry : Use) : Type 0 where
  pub meets : AreValuedBefore s S m
  pub typed : IsTypedRow s row
  pub equation : Equation
  pub name : FlatName
  pub can : CanUse s (with_row S m row) m entry equation name

-- wherever a use of this class counts, a side has a value of the type of its name or fails, and a value of the side is what the use gives
pub record Expresses (s : Setting) (entry : Use) (side : Expr) (class : ℕ) : Type 0 where
  pub class_is : class_of_equation s entry.equation ≡ Some class
  pub answers : (S : Assignment) (m : ℕ) (row : Row) (counted : IsCounted s S m row entry) → IsAnswerOfKind counted.name.kind (value_of side (views_at s (with_row S m row) (Some class) m))
  pub gives : (S : Assignment) (m : ℕ) (row : Row) → IsCounted s S m row entry → (v : Value) → value_of side (views_at s (with_row S m row) (Some class) m) ≡ Is v → Gives s S m row entry v

-- the lines express the uses, one of each
abbrev pub AreExpressing : Setting → List Use → ℕ → List Use → List Line → Type 0
AreExpressing s uses class [] [] = Unit {0}
AreExpressing s uses class (entry ∷ entries) (l ∷ ls) = (Contains uses entry × (l.name ≡ entry.name) × Expresses s entry l.side class) × AreExpressing s uses class entries ls
AreExpressing s uses class _ _ = ⊥
