-- How a runner goes on that may have run ahead.
use Rattle.std.specs.Prelude.{◌≡◌, ℕ, ◌≤◌, ◌<◌, ◌⊎◌, List, length, Option, Some, None, IsSome}
use Rattle.sync_values.specs.declared.value.Value.{Value}
use Rattle.rational_time.specs.declared.ratio.Ratio.{Ratio}
use Rattle.flat_model.specs.declared.clock.Moment.{Moment}
use Rattle.flat_model.specs.declared.clock.Moment.TheVariants.{At}
use Rattle.flat_model.specs.declared.fault.Fault.{Fault}
use Rattle.flat_model.specs.Assignment.{Assignment}
use Rattle.flat_model.specs.Setting.{Setting}
use Rattle.moment_theory.specs.Going.{AgreeBefore}
use Rattle.run_ahead.specs.declared.answer.Advance.{Advance}
use Rattle.run_ahead.specs.declared.answer.Advance.TheVariants as answer
use Rattle.run_ahead.specs.Ahead.{Running, Window, Stands, moment_given, row_given}
use Rattle.run_ahead.specs.Given.{Given, GaveRow, GaveFault, GaveEnd, GaveNothing, GoesOnFrom}

-- a moment with its row, where both are there and it is an instant
abbrev pub row_at : Option Moment → Option (List (Option Value)) → Given
row_at (Some (At t)) (Some values) = GaveRow t values
row_at _ _ = GaveNothing

-- what a call of `advance` gave, by its answer and the runner that it left
abbrev pub given_by : Advance → Running → Given
given_by answer.Row runner = row_at (moment_given runner) (row_given runner)
given_by (answer.Fault fault) runner = GaveFault fault
given_by answer.End runner = GaveEnd

-- the moment given last is an instant, and has a row
pub record HasRow (runner : Running) : Type 0 where
  pub at : Ratio
  pub values : List (Option Value)
  pub moment_is : moment_given runner ≡ Some (At at)
  pub row_is : row_given runner ≡ Some values

-- where nothing is left to give and nothing failed, no moment is left
abbrev pub IsFilled : Setting → ℕ → Running → Type 0
IsFilled s m runner = runner.given ≡ length runner.window.moments → runner.window.fault ≡ None → length s.instants < m

-- running ahead changes nothing of what a runner stands for
abbrev pub Fills : (Setting → Assignment → ℕ → Type 0) → (Setting → Assignment → ℕ → Type 0) → Running → Running → Type 0
Fills before after old new = (s : Setting) (S : Assignment) (m : ℕ) → Stands before old s S m → Stands after new s S m × IsFilled s m new

-- S stands before m where `before` stood before m₀: the same, or Initial was passed over
pub record IsBehind (before : Assignment) (m₀ : ℕ) (S : Assignment) (m : ℕ) : Type 0 where
  pub agrees : AgreeBefore before S m₀
  pub step : (m ≡ m₀) ⊎ ((m₀ ≡ 0) × (m ≡ 1))

-- Initial was passed over, or the fault is at it
abbrev pub HasPassed : ℕ → Running → Type 0
HasPassed m runner = m ≡ 0 → (length runner.window.moments ≤ runner.given) × IsSome runner.window.fault

pub record PassedOn (keeps : Setting → Assignment → ℕ → Type 0) (s : Setting) (before : Assignment) (m₀ : ℕ) (new : Running) : Type 0 where
  pub after : Assignment
  pub m : ℕ
  pub behind : IsBehind before m₀ after m
  pub stands : Stands keeps new s after m
  pub passed : HasPassed m new

abbrev pub Passes : (Setting → Assignment → ℕ → Type 0) → (Setting → Assignment → ℕ → Type 0) → Running → Running → Type 0
Passes before after old new = (s : Setting) (S : Assignment) (m : ℕ) → Stands before old s S m → IsFilled s m old → PassedOn after s S m new

-- what is given goes on from where the runner stood, Initial passed over or not
abbrev pub GivesNext : (Setting → Assignment → ℕ → Type 0) → (Setting → Assignment → ℕ → Type 0) → Running → Running → Advance → Type 0
GivesNext keeps after old new result = (s : Setting) (S : Assignment) (m : ℕ) → Stands keeps old s S m → IsFilled s m old → HasPassed m old
    → (before : Assignment) (m₀ : ℕ) → IsBehind before m₀ S m → GoesOnFrom (Stands after new) s before m₀ (given_by result new)

-- a runner whose rows were given, with a fault behind them
abbrev pub IsStopped : Running → Fault → Type 0
IsStopped runner fault = (length runner.window.moments ≤ runner.given) × (runner.window.fault ≡ Some fault)

-- a runner whose rows were given, and no moment is left
abbrev pub IsEnded : Type 0 → Running → Type 0
IsEnded over runner = over × (length runner.window.moments ≤ runner.given) × (runner.window.fault ≡ None)

-- what stopped or ended stays so
abbrev pub StaysStopped : Running → Running → Type 0
StaysStopped old new = (fault : Fault) → IsStopped old fault → new ≡ old

abbrev pub StaysEnded : Type 0 → Type 0 → Running → Running → Type 0
StaysEnded before after old new = IsEnded before old → IsEnded after new

-- where all rows of a runner were given and nothing failed, no moment is left
abbrev pub IsOverWhereGiven : Type 0 → Running → Type 0
IsOverWhereGiven over runner = length runner.window.moments ≤ runner.given → runner.window.fault ≡ None → over

-- a fault or the end is answered where the runner is left so
abbrev pub LeavesStopped : Type 0 → Running → Advance → Type 0
LeavesStopped over new answer.Row = Unit {0}
LeavesStopped over new (answer.Fault fault) = IsStopped new fault
LeavesStopped over new answer.End = IsEnded over new

-- where it was left so before, the same is answered again
pub record AnswersAgain (before after : Type 0) (old new : Running) (result : Advance) : Type 0 where
  pub leaves : LeavesStopped after new result
  pub fault : (fault : Fault) → IsStopped old fault → (new ≡ old) × (result ≡ answer.Fault fault)
  pub end : IsEnded before old → result ≡ answer.End

-- a window without moments is run exactly where none is left, and that stays so
pub record EndsWhere (before after : Type 0) (window : Window) : Type 0 where
  pub empty : before → (length window.moments ≡ 0) × (window.fault ≡ None)
  pub over : length window.moments ≡ 0 → window.fault ≡ None → after

-- a row that was given is there, of a runner that stood for something
abbrev pub ShowsRow : (Setting → Assignment → ℕ → Type 0) → Running → Running → Advance → Type 0
ShowsRow keeps old new result = result ≡ answer.Row → (s : Setting) (S : Assignment) (m : ℕ) → Stands keeps old s S m → HasRow new
