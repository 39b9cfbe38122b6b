-- What a run may rest on: what the front end gives it.
use Rattle.std.specs.Prelude.{◌≡◌, ◌≢◌, ℕ, ◌^◌, ◌<◌, true, List, [], ◌∷◌, length, Option, Some, None, slice_get, All}
use Rattle.rational_time.specs.declared.ratio.Ratio.{Ratio}
use Rattle.rational_time.specs.Fraction.{ArePartsBelow}
use Rattle.rational_time.specs.Multiple.{HasMultipleBelow}
use Rattle.flat_model.specs.declared.clock.Clock.{Clock}
use Rattle.flat_model.specs.declared.clock.Clock.TheVariants.{Periodic, Event}
use Rattle.flat_model.specs.declared.clock.Clocking.{Clocking}
use Rattle.flat_model.specs.declared.equation.Equation.{Equation}
use Rattle.flat_model.specs.declared.equation.Equation.TheVariants.{Valued, Clocks}
use Rattle.flat_model.specs.declared.evaluate.Vantage.TheVariants.{Left}
use Rattle.flat_model.specs.declared.expression.Expr.{Expr}
use Rattle.flat_model.specs.declared.model.FlatModel.{FlatModel}
use Rattle.flat_model.specs.declared.model.NameKind.TheVariants as kind
use Rattle.flat_model.specs.Asks.{AsksFor, OfNow, OfLast}
use Rattle.flat_model.specs.Clocks.{AreOnOneAxis}
use Rattle.flat_model.specs.Models.{IsModel}
use Rattle.flat_model.specs.Moments.{AreInstants}
use Rattle.flat_model.specs.Occurrences.{bare_count, held_count, converted_count, uncut_count, is_direct}
use Rattle.flat_model.specs.Samples.{may_stand, samples_are_plain}
use Rattle.flat_model.specs.Setting.{Setting, class_of_name, class_of_equation, clock_of, partition_of}
use Rattle.flat_model.specs.Tables.{IsTableOf, IsInput, IsTime}
use Rattle.flat_model.specs.Typing.{types_in, type_of}

-- a clock that can be run: its parts are below 2^40, its period or its factor is not 0, and its site is there
abbrev pub CanRun : List Expr → Clock → Type 0
CanRun sites (Periodic period start) = (0 < period.num) × ArePartsBelow (2 ^ 40) period × ArePartsBelow (2 ^ 40) start
CanRun sites (Event site factor shift) = (site < length sites) × (0 < factor) × (factor < 2 ^ 40) × (shift < 2 ^ 40)

-- the denominators of the clocks in seconds
abbrev pub denominators : List Clock → List ℕ
denominators [] = []
denominators (Periodic period start ∷ clocks) = period.den ∷ (start.den ∷ denominators clocks)
denominators (Event site factor shift ∷ clocks) = denominators clocks

-- the clocks can be run, and those in seconds lie on one grid that is not too fine
pub record AreClocks (clocking : Clocking) : Type 0 where
  pub each : All (CanRun clocking.sites) clocking.clocks
  pub grid : HasMultipleBelow (2 ^ 40) (denominators clocking.clocks)

-- a class of a name or of an equation, where it has one, is one of the clocking
abbrev pub IsClassBelow : ℕ → Option ℕ → Type 0
IsClassBelow count None = Unit {0}
IsClassBelow count (Some class) = class < count

-- each name and each equation has a class or is unclocked, and each class has a clock and a base partition
pub record AreClasses (model : FlatModel) (clocking : Clocking) : Type 0 where
  pub names : length clocking.of_name ≡ length model.names
  pub equations : length clocking.of_equation ≡ length model.equations
  pub partitions : length clocking.partitions ≡ length clocking.clocks
  pub of_name : All (IsClassBelow (length clocking.clocks)) clocking.of_name
  pub of_equation : All (IsClassBelow (length clocking.clocks)) clocking.of_equation

-- no clock governs a name
abbrev pub IsUnclocked : Setting → ℕ → Type 0
IsUnclocked s y = class_of_name s y ≡ None

abbrev pub IsClocked : Setting → ℕ → Type 0
IsClocked s z = class_of_name s z ≢ None

-- a conversion may go from one class to another: their clocks go by one axis, in one base partition
pub record IsConvertible (s : Setting) (from to : Option ℕ) : Type 0 where
  pub axis : AreOnOneAxis (clock_of s to) (clock_of s from)
  pub partition : partition_of s from ≡ partition_of s to

-- one side of equation i agrees with the classes. MLS 3.6, chapter 16, "Clock Partitioning", in this project's profile.
pub record IsSideClocked (s : Setting) (i : ℕ) (e : Expr) : Type 0 where
  -- what stands uncut in it has its class
  pub own : (y : ℕ) → 0 < uncut_count y e → class_of_name s y ≡ class_of_equation s i
  -- the argument of a conversion is on its axis
  pub converted : (z : ℕ) → 0 < converted_count z e → IsConvertible s (class_of_name s z) (class_of_equation s i)
  -- a clocked name is held, and in unclocked equations alone
  pub held : (z : ℕ) → 0 < held_count z e → IsClocked s z × (class_of_equation s i ≡ None)
  -- what is sampled is unclocked, and plain
  pub sampled : (y : ℕ) → AsksFor e 1 (OfNow y) → IsUnclocked s y
  pub sampled_held : (z : ℕ) → AsksFor e 1 (OfLast z) → IsClocked s z
  pub plain : samples_are_plain e ≡ true
  -- an unclocked equation asks nothing of ticks, and does not sample
  pub unclocked : class_of_equation s i ≡ None → may_stand e Left ≡ true

abbrev pub IsEquationClocked : Setting → ℕ → Equation → Type 0
IsEquationClocked s i (Valued left right clause) = IsSideClocked s i left × IsSideClocked s i right
IsEquationClocked s i (Clocks left right clause) = Unit {0}

-- the condition of a site: a Boolean of constants and unclocked names, under operators and functions alone
pub record IsCondition (s : Setting) (condition : Expr) : Type 0 where
  pub typed : type_of (types_in s.model.names) condition ≡ Some kind.Boolean
  pub direct : is_direct condition ≡ true
  pub unclocked : (y : ℕ) → 0 < bare_count y condition → IsUnclocked s y

-- what the front end gives to a run: a model, a table of it, and a clocking that agrees with it
pub record IsRunnable (s : Setting) : Type 0 where
  pub model : IsModel s.model
  pub table : IsTableOf s.model s.table
  pub classes : AreClasses s.model s.clocking
  pub clocks : AreClocks s.clocking
  pub inputs : (x : ℕ) → IsInput s.model.names x → IsUnclocked s x
  pub equations : (i : ℕ) (equation : Equation) → slice_get s.model.equations i ≡ Some equation → IsEquationClocked s i equation
  pub sites : All (IsCondition s) s.clocking.sites

-- the setting of a run up to a stop: runnable, with all instants up to the stop
pub record IsSettingUntil (stop : Ratio) (s : Setting) : Type 0 where
  pub runnable : IsRunnable s
  pub range : IsTime stop
  pub instants : AreInstants s.clocking.clocks s.table.times stop s.instants
