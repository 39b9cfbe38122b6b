-- The values that are given at a moment: those with a finite derivation from the inputs. This project's own, for faults alone.
use Rattle.std.specs.Prelude.{◌≡◌, ℕ, ◌<◌, ◌⊎◌, ◌==◌, ◌&&◌, Bool, true, false, List, Option, Some, IsSome, slice_get, Contains, if◌then◌else◌}
use Rattle.sync_values.specs.declared.value.Value.{Value}
use Rattle.sync_values.specs.declared.value.Value.TheVariants as value
use Rattle.flat_model.specs.declared.clock.Clock.{Clock}
use Rattle.flat_model.specs.declared.clock.Clock.TheVariants.{Event}
use Rattle.flat_model.specs.declared.clock.Moment.{Moment}
use Rattle.flat_model.specs.declared.equation.Equation.{Equation}
use Rattle.flat_model.specs.declared.equation.Equation.TheVariants.{Valued, Clocks}
use Rattle.flat_model.specs.declared.expression.Expr.{Expr}
use Rattle.flat_model.specs.declared.model.FlatName.{FlatName}
use Rattle.flat_model.specs.Operators.{Is}
use Rattle.flat_model.specs.Moments.{moment_at, table_value}
use Rattle.flat_model.specs.Assignment.{Assignment, IsOfKind}
use Rattle.flat_model.specs.Setting.{Setting, class_of_name, class_of_equation, clock_of, site_answer, class_ticks, views_at}
use Rattle.flat_model.specs.Meets.{HasOneValue}
use Rattle.flat_model.specs.Occurrences.{bare_count, held_count, converted_count}
use Rattle.flat_model.specs.Uses.{ClassesMeet, Use}

-- the values of the names at one moment
abbrev pub Row : Type 0
Row = ℕ → Option Value

-- an assignment with this row at moment m
abbrev pub with_row : Assignment → ℕ → Row → Assignment
with_row S m row x k = if k == m then row x else S x k

-- an assignment with this value of one name at moment m
abbrev pub with_value : Assignment → ℕ → ℕ → Value → Assignment
with_value S m x v y k = if k == m && y == x then Some v else S y k

-- it is known at m whether a clock ticks: always of a Periodic one, of an Event clock where its site's condition has a value
abbrev pub IsKnownOf : Setting → Assignment → ℕ → Option Clock → Type 0
IsKnownOf s S m (Some (Event site factor shift)) = (b : Bool) × (site_answer s S site m ≡ Is (value.Bool b))
IsKnownOf s S m _ = Unit {0}

abbrev pub IsKnown : Setting → Assignment → ℕ → Option ℕ → Type 0
IsKnown s S m class = IsKnownOf s S m (clock_of s class)

-- an equation or a name of this class is known to count at m: it is unclocked, or its clock is known to tick
abbrev pub IsKnownToTick : Setting → Assignment → ℕ → Option ℕ → Type 0
IsKnownToTick s S m class = IsKnown s S m class × (class_ticks s S class m ≡ true)

-- the name has its value at m, or its clock is known not to tick
abbrev pub HasLastValue : Setting → Assignment → ℕ → ℕ → Type 0
HasLastValue s S m y = (IsKnown s S m (class_of_name s y) × (class_ticks s S (class_of_name s y) m ≡ false)) ⊎ IsSome (S y m)

-- what an expression of equation i reads of y now has a value at m
pub record HasReadIn (s : Setting) (S : Assignment) (m i : ℕ) (e : Expr) (y : ℕ) : Type 0 where
  pub bare : 0 < bare_count y e → IsSome (S y m)
  pub held : 0 < held_count y e → HasLastValue s S m y
  pub converted : 0 < converted_count y e → ClassesMeet s (class_of_equation s i) (class_of_name s y) → HasLastValue s S m y

-- every name but x that an equation reads now has a value at m
abbrev pub HasReadsBut : Setting → Assignment → ℕ → ℕ → ℕ → Equation → Type 0
HasReadsBut s S m i x (Valued left right clause) = (y : ℕ) → (y ≡ x → ⊥) → HasReadIn s S m i left y × HasReadIn s S m i right y
HasReadsBut s S m i x (Clocks left right clause) = Unit {0}

-- with the value v of x, both sides of equation i have one value at m
abbrev pub Solves : Setting → Assignment → ℕ → ℕ → Equation → ℕ → Value → Type 0
Solves s S m i equation x v = HasOneValue (views_at s (with_value S m x v) (class_of_equation s i) m) equation

-- v is the only value of x's type with which both sides have one value
pub record IsOnlySolution (s : Setting) (S : Assignment) (m i : ℕ) (equation : Equation) (name : FlatName) (x : ℕ) (v : Value) : Type 0 where
  pub typed : IsOfKind name.kind v
  pub solves : Solves s S m i equation x v
  pub only : (w : Value) → IsOfKind name.kind w → Solves s S m i equation x w → w ≡ v

-- a use whose other reads have values at m, at which its clock is known to tick
pub record CanUse (s : Setting) (S : Assignment) (m : ℕ) (entry : Use) (equation : Equation) (name : FlatName) : Type 0 where
  pub equation_is : slice_get s.model.equations entry.equation ≡ Some equation
  pub name_is : slice_get s.model.names entry.name ≡ Some name
  pub ticks : IsKnownToTick s S m (class_of_equation s entry.equation)
  pub reads : HasReadsBut s S m entry.equation entry.name equation

-- a row that the two rules of derivation keep: an input has the table's value, and a name has the only value that solves its use
pub record IsClosed (s : Setting) (S : Assignment) (uses : List Use) (m : ℕ) (row : Row) : Type 0 where
  pub inputs : (x : ℕ) (name : FlatName) (at : Moment) → slice_get s.model.names x ≡ Some name → name.input ≡ true
      → moment_at s.instants m ≡ Some at → row x ≡ table_value s.table x at
  pub solved : (entry : Use) (equation : Equation) (name : FlatName) (v : Value) → Contains uses entry
      → CanUse s (with_row S m row) m entry equation name → IsOnlySolution s (with_row S m row) m entry.equation equation name entry.name v
      → row entry.name ≡ Some v

-- the row of the given values: the least one that is closed, so that each value in it has a finite derivation
pub record IsGiven (s : Setting) (S : Assignment) (uses : List Use) (m : ℕ) (row : Row) : Type 0 where
  pub closed : IsClosed s S uses m row
  pub least : (other : Row) → IsClosed s S uses m other → (x : ℕ) (v : Value) → row x ≡ Some v → other x ≡ Some v
