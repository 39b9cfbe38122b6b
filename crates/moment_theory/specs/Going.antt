-- How what was found before a moment goes on: an assignment that meets the model, alone in that.
use Rattle.std.specs.Prelude.{◌≡◌, ℕ, ◌<◌, ◌≤◌, Bool, List, Contains, Some, slice_get}
use Rattle.sync_values.specs.declared.value.Value.{Value}
use Rattle.sync_values.specs.declared.value.Value.TheVariants as value
use Rattle.flat_model.specs.declared.equation.Equation.{Equation}
use Rattle.flat_model.specs.declared.expression.Expr.{Expr}
use Rattle.flat_model.specs.declared.model.FlatName.{FlatName}
use Rattle.flat_model.specs.Operators.{Is}
use Rattle.flat_model.specs.Assignment.{Assignment}
use Rattle.flat_model.specs.Setting.{Setting, site_answer}
use Rattle.flat_model.specs.Meets.{MeetsBefore}
use Rattle.flat_model.specs.Uses.{Use}
use Rattle.flat_model.specs.Given.{Row, with_row, IsGiven, CanUse, IsOnlySolution}
use Rattle.flat_model.specs.Faults.{SomethingFails}

-- two assignments have the same values before m
abbrev pub AgreeBefore : Assignment → Assignment → ℕ → Type 0
AgreeBefore S T m = (x k : ℕ) → k < m → S x k ≡ T x k

-- S meets the model before m, and whatever does has the same values there
pub record IsOnlyBefore (s : Setting) (S : Assignment) (m : ℕ) : Type 0 where
  pub meets : MeetsBefore s S m
  pub only : (T : Assignment) → MeetsBefore s T m → AgreeBefore S T m

-- over the given values of no moment before n anything fails, whatever agrees with S before n
abbrev pub IsQuietBefore : Setting → List Use → Assignment → ℕ → Type 0
IsQuietBefore s uses S n =
    (k : ℕ) (row : Row) (T : Assignment) → k < n → AgreeBefore S T n → IsGiven s T uses k row → SomethingFails s (with_row T k row) uses k → ⊥

-- a run that went well before n: S meets the model there, at each moment alone, and nothing failed
pub record HasRun (s : Setting) (uses : List Use) (S : Assignment) (n : ℕ) : Type 0 where
  pub meets : MeetsBefore s S n
  pub only : (k : ℕ) → k ≤ n → (T : Assignment) → MeetsBefore s T k → AgreeBefore S T k
  pub quiet : IsQuietBefore s uses S n

-- the condition of each site has a value at m
abbrev pub SitesHold : Setting → Assignment → ℕ → Type 0
SitesHold s S m = (site : ℕ) (condition : Expr) → slice_get s.clocking.sites site ≡ Some condition → (b : Bool) × (site_answer s S site m ≡ Is (value.Bool b))

-- each use that counts at m gives a value
abbrev pub AllSolved : Setting → Assignment → List Use → ℕ → Type 0
AllSolved s S uses m = (entry : Use) (equation : Equation) (name : FlatName) → Contains uses entry → CanUse s S m entry equation name
    → (v : Value) × IsOnlySolution s S m entry.equation equation name entry.name v
