-- What the solution of a use's equation tells of the use. This project's own.
use Rattle.std.specs.Prelude.{◌≡◌, ℕ, List, Option, Result, Contains}
use Rattle.sync_values.specs.declared.value.Value.{Value}
use Rattle.sync_values.specs.declared.value.Fail.{Fail}
use Rattle.flat_model.specs.declared.equation.Equation.{Equation}
use Rattle.flat_model.specs.declared.equation.Equation.TheVariants.{Valued, Clocks}
use Rattle.flat_model.specs.declared.expression.Expr.{Expr}
use Rattle.flat_model.specs.declared.model.FlatName.{FlatName}
use Rattle.flat_model.specs.Asks.{Asking, OfNow, AsksFor}
use Rattle.flat_model.specs.Assignment.{Assignment}
use Rattle.flat_model.specs.Evaluation.{answer_of}
use Rattle.flat_model.specs.Given.{Row, with_row, CanUse}
use Rattle.flat_model.specs.Meaning.{seen_by}
use Rattle.flat_model.specs.Ways.{parts_beside}
use Rattle.flat_model.specs.Runnable.{IsRunnable}
use Rattle.flat_model.specs.Setting.{Setting, class_of_equation, views_at}
use Rattle.flat_model.specs.Uses.{Use, AreUses}
use Rattle.flat_model.specs.Views.{Views}
use Rattle.eq_orient.specs.Solving.{ArePresent, AreWellMade, Solves}
use Rattle.moment_theory.specs.Sound.{WaitsForNoOwn}
use Rattle.side_theory.specs.Sides.{DoesAs}
use Rattle.side_theory.specs.Stretches.{IsSameAt}
use Rattle.side_theory.specs.Typed.{AreValuedBefore, IsTypedRow}

-- views show all that an expression asks for as it is over a row, but the value of one name now
abbrev pub ShowsBut : Setting → Assignment → ℕ → Row → Option ℕ → ℕ → Views → Expr → Type 0
ShowsBut s S m row class x views e = (back : ℕ) (asking : Asking) → AsksFor e back asking → ((back ≡ 0) × (asking ≡ OfNow x) → ⊥)
    → IsSameAt views (views_at s (with_row S m row) class m) back asking

-- the same of both sides of an equation
abbrev pub ShowsEquation : Setting → Assignment → ℕ → Row → Option ℕ → ℕ → Views → Equation → Type 0
ShowsEquation s S m row class x views (Valued left right clause) = ShowsBut s S m row class x views left × ShowsBut s S m row class x views right
ShowsEquation s S m row class x views (Clocks left right clause) = Unit {0}

-- an equation can be solved for a name over views: its chains and samples are in order, and no part beside the way to the name is absent
pub record CanSolve (x : ℕ) (equation : Equation) (views : Views) : Type 0 where
  pub made : AreWellMade equation
  pub present : ArePresent (seen_by views (parts_beside x equation))

-- a use that counts can be solved over views that show what its equation asks for, and does over the row what the solution tells
abbrev pub SolvingLaw : Type 0
SolvingLaw = (s : Setting) (uses : List Use) → IsRunnable s → AreUses s uses → (entry : Use) → Contains uses entry → WaitsForNoOwn s entry
    → (S : Assignment) (m : ℕ) (row : Row) → AreValuedBefore s S m → IsTypedRow s row → (equation : Equation) (name : FlatName) → CanUse s (with_row S m row) m entry equation name
    → (views : Views) → ShowsEquation s S m row (class_of_equation s entry.equation) entry.name views equation
    → CanSolve entry.name equation views × ((result : Result Value Fail) → Solves entry.name equation views result → DoesAs s uses S m row entry (answer_of result))
