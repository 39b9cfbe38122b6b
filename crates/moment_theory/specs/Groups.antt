-- Groups of names that can be run by themselves over many moments. This project's own.
use Rattle.std.specs.Prelude.{◌≡◌, ℕ, ◌≤◌, Bool, true, Option, Some, slice_get}
use Rattle.sync_values.specs.declared.value.Value.{Value}
use Rattle.flat_model.specs.declared.equation.Equation.{Equation}
use Rattle.flat_model.specs.declared.equation.Equation.TheVariants.{Valued}
use Rattle.flat_model.specs.declared.expression.Expr.{Expr}
use Rattle.flat_model.specs.declared.model.FlatName.{FlatName}
use Rattle.flat_model.specs.Asks.{AsksFor, OfNow, OfLast, OfPrevious}
use Rattle.flat_model.specs.Assignment.{Assignment, IsOfKind}
use Rattle.flat_model.specs.Given.{CanUse, IsOnlySolution, Solves}
use Rattle.flat_model.specs.Setting.{Setting, class_of_name, class_of_equation}
use Rattle.flat_model.specs.Uses.{Use, SiteReads}

-- two assignments have the same values of some names up to m
abbrev pub AgreeOnUpTo : (ℕ → Bool) → Assignment → Assignment → ℕ → Type 0
AgreeOnUpTo group S T m = (x k : ℕ) → group x ≡ true → k ≤ m → S x k ≡ T x k

-- the condition of a class's site reads names of the group alone
abbrev pub IsClockWithin : Setting → (ℕ → Bool) → Option ℕ → Type 0
IsClockWithin s group class = (y : ℕ) → SiteReads s class y → group y ≡ true

-- the name is of the group, and so is what its clock waits for
pub record IsNameWithin (s : Setting) (group : ℕ → Bool) (x : ℕ) : Type 0 where
  pub own : group x ≡ true
  pub clock : IsClockWithin s group (class_of_name s x)

-- an expression in an equation of a class asks, at the moment and at those before it, for names of the group alone
pub record IsWithin (s : Setting) (group : ℕ → Bool) (class : Option ℕ) (e : Expr) : Type 0 where
  pub clock : IsClockWithin s group class
  pub now : (back x : ℕ) → AsksFor e back (OfNow x) → group x ≡ true
  pub last : (back x : ℕ) → AsksFor e back (OfLast x) → IsNameWithin s group x
  pub previous : (back x : ℕ) → AsksFor e back (OfPrevious x) → IsNameWithin s group x

-- a use whose equation asks for names of the group alone
pub record IsUseWithin (s : Setting) (group : ℕ → Bool) (entry : Use) : Type 0 where
  pub left : Expr
  pub right : Expr
  pub clause : Option ℕ
  pub found : slice_get s.model.equations entry.equation ≡ Some (Valued left right clause)
  pub left_is : IsWithin s group (class_of_equation s entry.equation) left
  pub right_is : IsWithin s group (class_of_equation s entry.equation) right

-- a use counts under two assignments alike, and the same value, or none, solves its equation
pub record IsSolvedAlike (s : Setting) (S T : Assignment) (m : ℕ) (entry : Use) (equation : Equation) (name : FlatName) : Type 0 where
  pub only : (v : Value) → CanUse s S m entry equation name → IsOnlySolution s S m entry.equation equation name entry.name v
      → CanUse s T m entry equation name × IsOnlySolution s T m entry.equation equation name entry.name v
  pub none : CanUse s S m entry equation name → ((v : Value) → IsOfKind name.kind v → Solves s S m entry.equation equation entry.name v → ⊥)
      → CanUse s T m entry equation name × ((v : Value) → IsOfKind name.kind v → Solves s T m entry.equation equation entry.name v → ⊥)
