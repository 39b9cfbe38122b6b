-- What a step of uses over cells stands on.
use Rattle.std.specs.Prelude.{◌≡◌, ℕ, suc, true, false, List, [], ◌∷◌, ◌++◌, map, Option, Some, is_none, slice_get, ◌⊎◌}
use Rattle.flat_model.specs.declared.equation.Equation.{Equation}
use Rattle.flat_model.specs.declared.equation.Equation.TheVariants.{Valued, Clocks}
use Rattle.flat_model.specs.declared.expression.Expr.{Expr}
use Rattle.flat_model.specs.declared.table.Left.{Left}
use Rattle.flat_model.specs.Values.{value_in}
use Rattle.flat_model.specs.Asks.{AsksFor, OfNow, OfLast, OfPrevious}
use Rattle.flat_model.specs.Assignment.{Assignment, tick_before, previous_value}
use Rattle.flat_model.specs.Given.{Row, with_row, IsKnown, IsKnownToTick}
use Rattle.flat_model.specs.Intervals.{IsMeasurable}
use Rattle.flat_model.specs.Setting.{Setting, class_of_name, class_of_equation, clock_of, start_of, class_ticks, name_ticks, interval_at}
use Rattle.flat_model.specs.Uses.{Use, SiteReads}
use Rattle.eq_orient.specs.Spine.{IsSpineOf}
use Rattle.moment_theory.specs.Free.{IsOrdered, IsReachedBy, AsksClass}
use Rattle.moment_theory.specs.Sound.{IsSound, IsClear}
use Rattle.side_theory.specs.Typed.{AreValuedBefore, IsTypedRow}
use Rattle.tree_step.specs.declared.cell.Cell.{Cell}
use Rattle.tree_step.specs.declared.cell.Standing.{Standing}
use Rattle.tree_step.specs.declared.cell.Standing.TheVariants.{Ticks, Rests, Unknown}
use Rattle.tree_step.specs.declared.frame.ClockNow.{ClockNow}
use Rattle.tree_step.specs.declared.taking.Entry.{Entry}
use Rattle.tree_step.specs.declared.taking.Scene.{Scene}
use Rattle.tree_step.specs.Cells.{cell_in}
use Rattle.tree_step.specs.Frames.{shown_elapsed, shown_length}

-- what the uses are taken over
pub record Sight : Type 0 where
  pub equations : List Equation
  pub places : List ℕ
  pub left : Left
  pub clocks : List ClockNow

abbrev pub sight_of : Scene → Sight
sight_of scene = record { equations = scene.flat.now.equations; places = scene.places.now; left = scene.left.now; clocks = scene.clocks.now }

-- the uses of entries
abbrev pub use_of : Entry → Use
use_of entry = record { equation = entry.equation; name = entry.name }

abbrev pub uses_of : List Entry → List Use
uses_of entries = map use_of entries

abbrev pub IsAmong : Entry → List Entry → Type 0
IsAmong entry [] = ⊥
IsAmong entry (first ∷ rest) = (first ≡ entry) ⊎ IsAmong entry rest

-- the name has a cell
abbrev pub HasCell : List ℕ → List Cell → ℕ → Type 0
HasCell places cells x = (cell : Cell) × (cell_in places cells x ≡ Some cell)

-- a cell keeps the last value of its name before the moment
abbrev pub KeepsLast : Setting → Assignment → ℕ → ℕ → Cell → Type 0
KeepsLast s S m x cell = previous_value (name_ticks s S x) (S x) (start_of s x) m ≡ Some cell.kept

-- whether a class is known to tick, is known to rest, or is not known
abbrev pub StandsAs : Setting → Assignment → ℕ → Option ℕ → Standing → Type 0
StandsAs s S m class Ticks = IsKnownToTick s S m class
StandsAs s S m class Rests = IsKnown s S m class × (class_ticks s S class m ≡ false)
StandsAs s S m class Unknown = IsKnown s S m class → ⊥

-- what is shown of a clock is so at the moment, over a row; of what is unclocked it is shown that it ticks
pub record IsClockShown (s : Setting) (S : Assignment) (m : ℕ) (base : Row) (class : Option ℕ) (clock : ClockNow) : Type 0 where
  pub ticks : clock.ticks ≡ class_ticks s (with_row S m base) class m
  pub first : (c : ℕ) → class ≡ Some c → clock.ticks ≡ true → clock.first ≡ is_none (tick_before (class_ticks s S class) m)
  pub interval : (c : ℕ) → class ≡ Some c → clock.ticks ≡ true → shown_length clock.first clock.interval ≡ interval_at s (class_ticks s S class) m (clock_of s class)
  pub measured : clock.ticks ≡ true → IsMeasurable (shown_elapsed clock.first clock.interval)

-- what a side asks for is shown by the cells, and what it samples by the values at the moment before
pub record IsSideSeen (s : Setting) (S : Assignment) (m : ℕ) (base : Row) (sight : Sight) (cells : List Cell) (clock : ClockNow) (e : Expr) : Type 0 where
  pub now : (y : ℕ) → AsksFor e 0 (OfNow y) → HasCell sight.places cells y
  pub last : (z : ℕ) → AsksFor e 0 (OfLast z) → (cell : Cell) × (cell_in sight.places cells z ≡ Some cell) × KeepsLast s S m z cell × StandsAs s (with_row S m base) m (class_of_name s z) cell.standing
  pub previous : (y : ℕ) → AsksFor e 0 (OfPrevious y) → (cell : Cell) × (cell_in sight.places cells y ≡ Some cell) × KeepsLast s S m y cell
  pub left : clock.ticks ≡ true → (y k : ℕ) → AsksFor e 1 (OfNow y) → m ≡ suc k → value_in sight.left.now y ≡ S y k
  pub left_last : clock.ticks ≡ true → (z : ℕ) → AsksFor e 1 (OfLast z) → slice_get sight.left.last z ≡ previous_value (name_ticks s S z) (S z) (start_of s z) m

abbrev pub AreSidesSeen : Setting → Assignment → ℕ → Row → Sight → List Cell → ClockNow → Equation → Type 0
AreSidesSeen s S m base sight cells clock (Valued left right clause) = IsSideSeen s S m base sight cells clock left × IsSideSeen s S m base sight cells clock right
AreSidesSeen s S m base sight cells clock (Clocks left right clause) = Unit {0}

-- an entry is that of a use that can be solved, its name has a cell, its clock is shown, and what its equation asks for is shown
pub record IsEntry (s : Setting) (S : Assignment) (m : ℕ) (base : Row) (sight : Sight) (cells : List Cell) (entry : Entry) : Type 0 where
  pub equation : Equation
  pub found : slice_get s.model.equations entry.equation ≡ Some equation
  pub spine : IsSpineOf entry.name equation entry.spine.left
  pub own : HasCell sight.places cells entry.name
  pub clock : ClockNow
  pub clock_found : slice_get sight.clocks entry.clock ≡ Some clock
  pub told : IsClockShown s S m base (class_of_equation s entry.equation) clock
  pub seen : AreSidesSeen s S m base sight cells clock equation

-- no site whose tick one of the uses asks for waits for a name that they reach
abbrev pub AreSitesApart : Setting → List Use → List Entry → Type 0
AreSitesApart s reached entries = (entry : Entry) (class : Option ℕ) (y : ℕ) → IsAmong entry entries → AsksClass s entry.equation class → SiteReads s class y → IsReachedBy y reached → ⊥

-- uses of a free order are taken from a row: names have values before the moment, the row is typed, sound and without values of these uses, cells hold the row, and each entry is shown
pub record IsStart (s : Setting) (uses before after : List Use) (S : Assignment) (m : ℕ) (base : Row) (sight : Sight) (entries : List Entry) (cells : List Cell) : Type 0 where
  pub ordered : IsOrdered s uses (before ++ (uses_of entries ++ after))
  pub meets : AreValuedBefore s S m
  pub typed : IsTypedRow s base
  pub sound : IsSound s (with_row S m base) m
  pub clear : IsClear (uses_of entries) base
  pub apart : AreSitesApart s (uses_of entries) entries
  pub model : sight.equations ≡ s.model.equations
  pub holds : (x : ℕ) (cell : Cell) → cell_in sight.places cells x ≡ Some cell → cell.now ≡ base x
  pub each : (entry : Entry) → IsAmong entry entries → IsEntry s S m base sight cells entry

-- there is something that the step stands on
pub record CanStart (sight : Sight) (entries : List Entry) (cells : List Cell) : Type 0 where
  pub s : Setting
  pub uses : List Use
  pub before : List Use
  pub after : List Use
  pub S : Assignment
  pub m : ℕ
  pub base : Row
  pub start : IsStart s uses before after S m base sight entries cells
