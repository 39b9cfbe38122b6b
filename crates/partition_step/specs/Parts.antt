-- A part: the uses of one base partition, with what is kept of its names and classes. This project's own.
use Rattle.std.specs.Prelude.{◌≡◌, ℕ, List, ◌++◌, length, map, Option, Some, None, slice_get, Contains, IfSome}
use Rattle.rational_time.specs.declared.ratio.Ratio.{Ratio}
use Rattle.flat_model.specs.declared.clock.Clock.{Clock}
use Rattle.flat_model.specs.declared.clock.Moment.TheVariants.{At}
use Rattle.flat_model.specs.declared.equation.Equation.{Equation}
use Rattle.flat_model.specs.Assignment.{Assignment, tick_before}
use Rattle.flat_model.specs.Moments.{moment_at}
use Rattle.flat_model.specs.Setting.{Setting, class_of_name, class_of_equation, clock_of, partition_of, class_ticks}
use Rattle.flat_model.specs.Uses.{Use}
use Rattle.eq_orient.specs.Spine.{IsSpineOf}
use Rattle.moment_theory.specs.Free.{IsOrdered}
use Rattle.tree_step.specs.declared.cell.Cell.{Cell}
use Rattle.tree_step.specs.declared.taking.Entry.{Entry}
use Rattle.tree_step.specs.Starts.{uses_of, IsAmong, KeepsLast}
use Rattle.part_code.specs.Coded.{IsCodeOf}
use Rattle.partition_step.specs.declared.part.ClassKept.{ClassKept}
use Rattle.partition_step.specs.declared.part.Part.{Part}

-- the uses of one base partition, in a free order of all
pub record IsPiece (s : Setting) (uses before own after : List Use) (partition : ℕ) : Type 0 where
  pub ordered : IsOrdered s uses (before ++ (own ++ after))
  pub of : (entry : Use) → Contains own entry → partition_of s (class_of_equation s entry.equation) ≡ Some partition
  pub whole : (entry : Use) → Contains uses entry → partition_of s (class_of_equation s entry.equation) ≡ Some partition → Contains own entry

-- the names of cells, and the classes that are kept with their clocks
abbrev pub names_of : List Cell → List ℕ
names_of cells = map (λ cell. cell.name) cells

abbrev pub numbers_of : List ClassKept → List ℕ
numbers_of classes = map (λ kept. kept.class) classes

abbrev pub clocks_of : List ClassKept → List Clock
clocks_of classes = map (λ kept. kept.clock) classes

-- uses as they are laid out: cell by cell their names, each in the place that the table has for it, and for each the place of its class; each class is that of one of them
pub record IsLaid (s : Setting) (own : List Use) (places : List ℕ) (entries : List Entry) (names classes : List ℕ) (clocks : List Clock) : Type 0 where
  pub uses_are : uses_of entries ≡ own
  pub names_are : names ≡ map (λ entry. entry.name) entries
  pub placed : (i x : ℕ) → slice_get names i ≡ Some x → slice_get places x ≡ Some i
  pub spines : (entry : Entry) → IsAmong entry entries → (equation : Equation) × (slice_get s.model.equations entry.equation ≡ Some equation) × IsSpineOf entry.name equation entry.spine.left
  pub of_class : (entry : Entry) → IsAmong entry entries → (class : ℕ) × (slice_get classes entry.clock ≡ Some class) × (class_of_equation s entry.equation ≡ Some class) × (class_of_name s entry.name ≡ Some class)
  pub clocks_are : (j class : ℕ) → slice_get classes j ≡ Some class → (clock : Clock) × (slice_get clocks j ≡ Some clock) × (clock_of s (Some class) ≡ Some clock)
  pub from_use : (j class : ℕ) → slice_get classes j ≡ Some class → (entry : Use) × Contains own entry × (class_of_equation s entry.equation ≡ Some class)

-- a part is that of these uses, has room for what is shown of its classes, and any code that it has is that of the uses
pub record IsPartOf (s : Setting) (own : List Use) (places : List ℕ) (part : Part) : Type 0 where
  pub laid : IsLaid s own places part.entries (names_of part.cells.items) (numbers_of part.classes.items) (clocks_of part.classes.items)
  pub room : length part.clocks.items ≡ length part.classes.items
  pub coded : IfSome part.code (IsCodeOf s.model.equations s.model.names part.entries)

-- the instant of a tick, where there is one
abbrev pub IsTickedAt : Setting → Option ℕ → Option Ratio → Type 0
IsTickedAt s None None = Unit {0}
IsTickedAt s (Some k) (Some t) = moment_at s.instants k ≡ Some (At t)
IsTickedAt s _ _ = ⊥

-- the instant of a class's last tick before m is kept
abbrev pub KeepsTick : Setting → Assignment → ℕ → ClassKept → Type 0
KeepsTick s S m kept = IsTickedAt s (tick_before (class_ticks s S (Some kept.class)) m) kept.ticked

-- a part stands for S before m: it keeps the last values of its names and the instants of the last ticks of its classes
pub record StandsFor (s : Setting) (S : Assignment) (m : ℕ) (part : Part) : Type 0 where
  pub values : (i : ℕ) (cell : Cell) → slice_get part.cells.items i ≡ Some cell → KeepsLast s S m cell.name cell
  pub ticks : (j : ℕ) (kept : ClassKept) → slice_get part.classes.items j ≡ Some kept → KeepsTick s S m kept
