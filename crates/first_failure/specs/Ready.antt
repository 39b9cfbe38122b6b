-- Which uses count where some before them failed. This project's own.
use Rattle.std.specs.Prelude.{◌≡◌, ◌≢◌, ℕ, ◌⊎◌, true, false, List, Some, IsSome, Contains}
use Rattle.sync_values.specs.declared.value.Value.{Value}
use Rattle.sync_values.specs.declared.value.Fail.{Fail}
use Rattle.flat_model.specs.declared.expression.Expr.{Expr}
use Rattle.flat_model.specs.Assignment.{Assignment}
use Rattle.flat_model.specs.Faults.{EquationFails}
use Rattle.flat_model.specs.Given.{Row, with_row}
use Rattle.flat_model.specs.Runnable.{IsRunnable}
use Rattle.flat_model.specs.Setting.{Setting, class_ticks, name_ticks}
use Rattle.flat_model.specs.Uses.{Use, AreUses, Reads}
use Rattle.moment_theory.specs.Taken.{Gives}
use Rattle.side_theory.specs.Sides.{IsSideUse, Counts}
use Rattle.side_theory.specs.Typed.{AreValuedBefore, IsTypedRow}

-- a name can be read over a row: it has a value there, or it rests and has its last value
abbrev pub IsReadable : Setting → Assignment → ℕ → Row → ℕ → Type 0
IsReadable s S m row y = (name_ticks s (with_row S m row) y m ≡ false) ⊎ IsSome (row y)

-- all names that the equation of a use reads now beside its own can be read
abbrev pub HasAllReads : Setting → Assignment → ℕ → Row → Use → Type 0
HasAllReads s S m row entry = (y : ℕ) → y ≢ entry.name → Reads s entry.equation y → IsReadable s S m row y

-- over a row a use gives no value, and its equation does not fail
pub record IsLeftOut (s : Setting) (uses : List Use) (S : Assignment) (m : ℕ) (row : Row) (entry : Use) : Type 0 where
  pub gives : (v : Value) → Gives s S m row entry v → ⊥
  pub fails : (kind : Fail) → EquationFails s (with_row S m row) uses m entry.equation kind → ⊥

-- a use of an equation `name = side` counts where its class ticks and all that it reads can be read; where the class rests, or something cannot be read, it is left out
abbrev pub ReadyLaw : Type 0
ReadyLaw = (s : Setting) (uses : List Use) → IsRunnable s → AreUses s uses → (entry : Use) (side : Expr) (class : ℕ) → Contains uses entry → IsSideUse s entry side class
    → (S : Assignment) (m : ℕ) (row : Row)
    → (AreValuedBefore s S m → IsTypedRow s row → class_ticks s (with_row S m row) (Some class) m ≡ true → HasAllReads s S m row entry → Counts s S m row entry side class)
    × (class_ticks s (with_row S m row) (Some class) m ≡ false → IsLeftOut s uses S m row entry)
    × ((HasAllReads s S m row entry → ⊥) → IsLeftOut s uses S m row entry)
