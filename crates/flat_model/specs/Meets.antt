-- An assignment meets a model up to a moment.
use Rattle.std.specs.Prelude.{◌≡◌, ℕ, ◌≤◌, ◌<◌, Bool, true, false, Option, Some, None, slice_get}
use Rattle.flat_model.specs.declared.clock.Moment.{Moment}
use Rattle.sync_values.specs.declared.value.Value.{Value}
use Rattle.sync_values.specs.declared.value.Value.TheVariants as value
use Rattle.flat_model.specs.declared.model.FlatName.{FlatName}
use Rattle.flat_model.specs.declared.model.NameKind.{NameKind}
use Rattle.flat_model.specs.declared.model.NameKind.TheVariants as kind
use Rattle.flat_model.specs.declared.equation.Equation.{Equation}
use Rattle.flat_model.specs.declared.equation.Equation.TheVariants.{Valued, Clocks}
use Rattle.flat_model.specs.declared.expression.Expr.{Expr}
use Rattle.flat_model.specs.Operators.{Is}
use Rattle.flat_model.specs.Views.{Views}
use Rattle.flat_model.specs.Meaning.{value_of}
use Rattle.flat_model.specs.Moments.{moment_at, table_value}
use Rattle.flat_model.specs.Assignment.{Assignment, IsOfKind}
use Rattle.flat_model.specs.Setting.{Setting, class_of_equation, site_answer, name_ticks, equation_ticks, views_at}

-- an Integer or Boolean name has a value exactly where it is unclocked or its clock ticks, of its type; a Clock has none
abbrev pub HasValueAtTicks : NameKind → Bool → Option Value → Type 0
HasValueAtTicks kind.Clock ticks o = o ≡ None
HasValueAtTicks k true o = (v : Value) × (o ≡ Some v) × IsOfKind k v
HasValueAtTicks k false o = o ≡ None

-- both sides of an equation have one value; equations between clocks carry no value
abbrev pub HasOneValue : Views → Equation → Type 0
HasOneValue views (Valued left right clause) = (v : Value) × (value_of left views ≡ Is v) × (value_of right views ≡ Is v)
HasOneValue views (Clocks left right clause) = Unit {0}

-- what is asked of an assignment at one moment
pub record MeetsAt (s : Setting) (S : Assignment) (m : ℕ) : Type 0 where
  pub inputs : (x : ℕ) (name : FlatName) (at : Moment) → slice_get s.model.names x ≡ Some name → name.input ≡ true
      → moment_at s.instants m ≡ Some at → S x m ≡ table_value s.table x at
  pub names : (x : ℕ) (name : FlatName) → slice_get s.model.names x ≡ Some name → HasValueAtTicks name.kind (name_ticks s S x m) (S x m)
  pub others : (x : ℕ) → slice_get s.model.names x ≡ None → S x m ≡ None
  pub sites : (site : ℕ) (condition : Expr) → slice_get s.clocking.sites site ≡ Some condition
      → (b : Bool) × (site_answer s S site m ≡ Is (value.Bool b))
  pub equations : (i : ℕ) (equation : Equation) → slice_get s.model.equations i ≡ Some equation → equation_ticks s S i m ≡ true
      → HasOneValue (views_at s S (class_of_equation s i) m) equation

-- the same at every moment up to n
abbrev pub Meets : Setting → Assignment → ℕ → Type 0
Meets s S n = (m : ℕ) → m ≤ n → MeetsAt s S m

-- the same at every moment before n
abbrev pub MeetsBefore : Setting → Assignment → ℕ → Type 0
MeetsBefore s S n = (m : ℕ) → m < n → MeetsAt s S m
