-- A step of a part at a moment. This project's own.
use Rattle.std.specs.Prelude.{◌≡◌, ℕ, suc, Bool, List, Option, Some, None, slice_get, Contains}
use Rattle.rational_time.specs.declared.ratio.Ratio.{Ratio}
use Rattle.flat_model.specs.declared.clock.Moment.{Moment}
use Rattle.flat_model.specs.declared.clock.Moment.TheVariants.{At}
use Rattle.flat_model.specs.declared.equation.Equation.{Equation}
use Rattle.flat_model.specs.declared.equation.Equation.TheVariants.{Valued, Clocks}
use Rattle.flat_model.specs.declared.expression.Expr.{Expr}
use Rattle.flat_model.specs.declared.table.Left.{Left}
use Rattle.flat_model.specs.Values.{truth_in, value_in}
use Rattle.flat_model.specs.Asks.{AsksFor, OfNow, OfLast}
use Rattle.flat_model.specs.Assignment.{Assignment, previous_value}
use Rattle.flat_model.specs.Given.{Row, with_row}
use Rattle.flat_model.specs.Intervals.{IsInRange}
use Rattle.flat_model.specs.Moments.{IsRising, moment_at}
use Rattle.flat_model.specs.Setting.{Setting, flattened, start_of, site_answer, class_ticks, name_ticks}
use Rattle.flat_model.specs.Uses.{Use}
use Rattle.side_theory.specs.Typed.{AreValuedAt, AreValuedBefore, IsTypedRow}
use Rattle.moment_theory.specs.Free.{IsReachedBy}
use Rattle.moment_theory.specs.Going.{AgreeBefore}
use Rattle.moment_theory.specs.Sound.{IsSound, IsClear}
use Rattle.moment_theory.specs.Taken.{AreTaken}
use Rattle.first_failure.specs.declared.least.EquationFailing.{EquationFailing}
use Rattle.first_failure.specs.Turns.{FailsAmong, IsLeast}
use Rattle.tree_step.specs.Cells.{cell_in}
use Rattle.tree_step.specs.Frames.{now_in}
use Rattle.partition_step.specs.declared.part.Outcome.{Outcome}
use Rattle.partition_step.specs.declared.part.Outcome.TheVariants.{Stepped, Failed}
use Rattle.partition_step.specs.declared.part.Part.{Part}
use Rattle.partition_step.specs.Parts.{IsPiece, IsPartOf, StandsFor}

-- what is shown of a moment: the model's equations, the place of each name's cell, the moment itself, which classes tick, what the conditions of sites give, and the values at the moment before
pub record Showing : Type 0 where
  pub equations : List Equation
  pub places : List ℕ
  pub moment : Moment
  pub ticks : ℕ → Bool
  pub answers : List (Option Bool)
  pub left : Left

-- what a side samples is shown by the values at the moment before
pub record IsSampleShown (s : Setting) (S : Assignment) (m : ℕ) (left : Left) (e : Expr) : Type 0 where
  pub now : (y k : ℕ) → AsksFor e 1 (OfNow y) → m ≡ suc k → value_in left.now y ≡ S y k
  pub last : (z k : ℕ) → AsksFor e 1 (OfLast z) → m ≡ suc k → slice_get left.last z ≡ previous_value (name_ticks s S z) (S z) (start_of s z) m

abbrev pub AreSamplesShown : Setting → Assignment → ℕ → Left → Equation → Type 0
AreSamplesShown s S m told (Valued left right clause) = IsSampleShown s S m told left × IsSampleShown s S m told right
AreSamplesShown s S m told (Clocks left right clause) = Unit {0}

-- the instants rise, and the time between two of them can be measured
pub record AreMeasured (instants : List Ratio) : Type 0 where
  pub rising : IsRising instants
  pub range : (k : ℕ) (t : Ratio) → moment_at instants k ≡ Some (At t) → IsInRange t

-- what is shown of moment m is so over a row: the ticks of classes and the answers of sites are those of S with this row, and what the part's equations sample is that of S
pub record IsShown (s : Setting) (own : List Use) (S : Assignment) (m : ℕ) (base : Row) (showing : Showing) : Type 0 where
  pub model : showing.equations ≡ s.model.equations
  pub here : moment_at s.instants m ≡ Some showing.moment
  pub ticks : (class : ℕ) → showing.ticks class ≡ class_ticks s (with_row S m base) (Some class) m
  pub answers : (site : ℕ) → flattened (slice_get showing.answers site) ≡ truth_in (site_answer s (with_row S m base) site m)
  pub samples : (entry : Use) (equation : Equation) → Contains own entry → slice_get s.model.equations entry.equation ≡ Some equation → AreSamplesShown s S m showing.left equation

-- a part that stands for S before m steps from a row that is typed, sound and without values of its names
pub record IsStepStart (s : Setting) (uses before own after : List Use) (partition : ℕ) (S : Assignment) (m : ℕ) (base : Row) (showing : Showing) (part : Part) : Type 0 where
  pub piece : IsPiece s uses before own after partition
  pub part_of : IsPartOf s own showing.places part
  pub stands : StandsFor s S m part
  pub meets : AreValuedBefore s S m
  pub typed : IsTypedRow s base
  pub sound : IsSound s (with_row S m base) m
  pub clear : IsClear own base
  pub shown : IsShown s own S m base showing
  pub measured : AreMeasured s.instants

-- the failure that an outcome tells
abbrev pub failing_in : Outcome → Option EquationFailing
failing_in Stepped = None
failing_in (Failed failing) = Some failing

-- T goes on from S at m with the values of a row for the part's names, and the classes that were shown to tick
pub record GoesOnWith (s : Setting) (own : List Use) (S : Assignment) (m : ℕ) (row : Row) (showing : Showing) (T : Assignment) : Type 0 where
  pub agrees : AgreeBefore S T m
  pub meets : AreValuedAt s T m
  pub values : (x : ℕ) → IsReachedBy x own → T x m ≡ row x
  pub ticks : (class : ℕ) → showing.ticks class ≡ class_ticks s T (Some class) m

-- the part's uses were taken from the base: its cells hold the row that they left, the least of their equations that fails over it is told, and where none fails the part stands before the next moment for whatever goes on with that row
pub record HasStepped (s : Setting) (uses own : List Use) (S : Assignment) (m : ℕ) (base : Row) (showing : Showing) (part : Part) (result : Outcome) : Type 0 where
  pub row : Row
  pub taken : AreTaken s S m own base row
  pub holds : (x : ℕ) → IsReachedBy x own → now_in (cell_in showing.places part.cells.items x) ≡ row x
  pub told : IsLeast (FailsAmong s uses S m own row) (failing_in result)
  pub part_of : IsPartOf s own showing.places part
  pub keeps : result ≡ Stepped → (T : Assignment) → GoesOnWith s own S m row showing T → StandsFor s T (suc m) part

-- whatever the step starts from
abbrev pub StepsFrom : Showing → Part → Part → Outcome → Type 0
StepsFrom showing old new result = (s : Setting) (uses before own after : List Use) (partition : ℕ) (S : Assignment) (m : ℕ) (base : Row)
    → IsStepStart s uses before own after partition S m base showing old → HasStepped s uses own S m base showing new result

-- there is something that the step starts from
pub record CanStep (showing : Showing) (part : Part) : Type 0 where
  pub s : Setting
  pub uses : List Use
  pub before : List Use
  pub own : List Use
  pub after : List Use
  pub partition : ℕ
  pub S : Assignment
  pub m : ℕ
  pub base : Row
  pub start : IsStepStart s uses before own after partition S m base showing part
