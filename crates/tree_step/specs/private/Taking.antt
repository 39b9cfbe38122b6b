-- The uses as they are taken one after the other.
use Rattle.std.specs.Prelude.{◌≡◌, ℕ, Bool, true, false, not, ◌&&◌, List, [], ◌∷◌, Option, Some, None, slice_get, Result, Ok, Err}
use Rattle.sync_values.specs.declared.value.Value.{Value}
use Rattle.sync_values.specs.declared.value.Fail.{Fail}
use Rattle.flat_model.specs.declared.equation.Equation.{Equation}
use Rattle.flat_model.specs.Intervals.{IsMeasurable}
use Rattle.flat_model.specs.Views.{Views}
use Rattle.eq_orient.specs.Spine.{IsSpineOf}
use Rattle.eq_orient.specs.Solving.{Solves}
use Rattle.first_failure.specs.declared.least.EquationFailing.{EquationFailing}
use Rattle.first_failure.specs.Careful.{less_of}
use Rattle.solved_use.specs.Solving.{CanSolve}
use Rattle.tree_step.specs.declared.cell.Cell.{Cell}
use Rattle.tree_step.specs.declared.frame.ClockNow.{ClockNow}
use Rattle.tree_step.specs.declared.taking.Entry.{Entry}
use Rattle.tree_step.specs.declared.taking.Outcome.{Outcome}
use Rattle.tree_step.specs.declared.taking.Outcome.TheVariants as outcome
use Rattle.tree_step.specs.Cells.{put_in}
use Rattle.tree_step.specs.Frames.{shown_elapsed, frame_views}
use Rattle.tree_step.specs.Starts.{Sight}
use Rattle.tree_step.specs.private.Lacking.{equation_lacks}

-- the clock ticks, and what the equation reads now has values
abbrev pub ready_in : List ℕ → List Cell → ℕ → Option ClockNow → Option Equation → Bool
ready_in places cells own None equation = false
ready_in places cells own (Some clock) None = false
ready_in places cells own (Some clock) (Some equation) = clock.ticks && not (equation_lacks places cells own equation)

abbrev pub is_ready : Sight → List Cell → Entry → Bool
is_ready sight cells entry = ready_in sight.places cells entry.name (slice_get sight.clocks entry.clock) (slice_get sight.equations entry.equation)

abbrev pub views_by : Sight → List Cell → ClockNow → Views
views_by sight cells clock = frame_views sight.places cells sight.left clock

-- an equation that is ready can be solved
pub record IsSolvable (sight : Sight) (cells : List Cell) (entry : Entry) (clock : ClockNow) (equation : Equation) : Type 0 where
  pub spine : IsSpineOf entry.name equation entry.spine.left
  pub can : CanSolve entry.name equation (views_by sight cells clock)
  pub measured : IsMeasurable (shown_elapsed clock.first clock.interval)

abbrev pub CanTake : Sight → List Cell → Entry → Type 0
CanTake sight cells entry = is_ready sight cells entry ≡ true → (clock : ClockNow) (equation : Equation) → slice_get sight.clocks entry.clock ≡ Some clock → slice_get sight.equations entry.equation ≡ Some equation
    → IsSolvable sight cells entry clock equation

-- the equation was solved
pub record SolvesBy (sight : Sight) (cells : List Cell) (entry : Entry) (result : Result Value Fail) : Type 0 where
  pub clock : ClockNow
  pub equation : Equation
  pub clock_found : slice_get sight.clocks entry.clock ≡ Some clock
  pub found : slice_get sight.equations entry.equation ≡ Some equation
  pub ready : is_ready sight cells entry ≡ true
  pub solves : Solves entry.name equation (views_by sight cells clock) result

abbrev pub OutcomeOf : Sight → List Cell → Entry → Outcome → Type 0
OutcomeOf sight cells entry outcome.Rests = is_ready sight cells entry ≡ false
OutcomeOf sight cells entry (outcome.Gives v) = SolvesBy sight cells entry (Ok v)
OutcomeOf sight cells entry (outcome.Fails kind) = SolvesBy sight cells entry (Err kind)

abbrev pub cells_after : List ℕ → List Cell → ℕ → Outcome → List Cell
cells_after places cells name (outcome.Gives v) = put_in places cells name v
cells_after places cells name outcome.Rests = cells
cells_after places cells name (outcome.Fails kind) = cells

abbrev pub told_after : Option EquationFailing → ℕ → Outcome → Option EquationFailing
told_after told equation (outcome.Fails kind) = Some (less_of told (record { equation = equation; kind = kind }))
told_after told equation (outcome.Gives v) = told
told_after told equation outcome.Rests = told

-- entries taken one after the other
abbrev pub TakesAll : Sight → List Entry → List Cell → Option EquationFailing → List Cell → Option EquationFailing → Type 0
TakesAll sight [] cells told new result = (new ≡ cells) × (result ≡ told)
TakesAll sight (entry ∷ entries) cells told new result =
    (o : Outcome) × OutcomeOf sight cells entry o × TakesAll sight entries (cells_after sight.places cells entry.name o) (told_after told entry.equation o) new result
