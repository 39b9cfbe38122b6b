-- What stands of a share before a moment. This project's own.
use Rattle.std.specs.Prelude.{◌≡◌, ℕ, suc, ◌<◌, List, length, map, Option, Some, slice_get, Contains}
use Rattle.flat_model.specs.declared.table.Left.{Left}
use Rattle.flat_model.specs.Values.{value_in}
use Rattle.flat_model.specs.Assignment.{Assignment, previous_value}
use Rattle.flat_model.specs.Setting.{Setting, flattened, class_of_equation, partition_of, start_of, name_ticks}
use Rattle.flat_model.specs.Uses.{Use}
use Rattle.fork_steps.specs.declared.slot.Slot.{Slot}
use Rattle.moment_steps.specs.declared.piece.Piece.{Piece}
use Rattle.moment_steps.specs.Settled.{own_uses, AlwaysTicks, IsPlainEntry}
use Rattle.moment_theory.proofs.Meeting.{IsValued}
use Rattle.moment_theory.specs.Free.{IsReachedBy}
use Rattle.partition_step.specs.Parts.{IsPartOf, StandsFor}
use Rattle.partition_step.specs.Steps.{AreMeasured}
use Rattle.share_run.specs.declared.share.ShareUses.{ShareUses}
use Rattle.share_run.specs.Shares.{Division}
use Rattle.tree_step.specs.declared.cell.Cell.{Cell}
use Rattle.tree_step.specs.declared.frame.ClockNow.{ClockNow}
use Rattle.tree_step.specs.declared.taking.Entry.{Entry}
use Rattle.tree_step.specs.Starts.{uses_of, IsAmong}

-- what a share has: the place of each class's base partition, the slot that reaches each name, its waiting uses, what is shown of no clock, the numbers of names and the places of their cells, its base partitions, a cell for each name, and what was left
pub record Holding : Type 0 where
  pub classes : List ℕ
  pub owners : List (Option ℕ)
  pub waiting : List Entry
  pub always : List ClockNow
  pub numbers : List ℕ
  pub places : List ℕ
  pub slots : List (Slot Piece)
  pub cells : List Cell
  pub left : Left

-- the same from what code has of it
abbrev pub holding_of : ShareUses → List (Slot Piece) → List Cell → Left → Holding
holding_of uses slots cells left =
    record { classes = uses.classes.now; owners = uses.owners.now; waiting = uses.waiting.now; always = uses.always.now; numbers = uses.numbers.now; places = uses.places.now; slots = slots; cells = cells; left = left }

-- the uses of each of its base partitions
abbrev pub pieces_of : Holding → List (List Use)
pieces_of h = map own_uses h.slots

-- the division of which it is the share
abbrev pub division_of : List Use → List Use → Holding → Division
division_of pure others h = record { pure = pure; pieces = pieces_of h; waiting = uses_of h.waiting; others = others }

-- its waiting uses, with the numbers of all names; and the instants can be measured
pub record IsShareSettled (s : Setting) (h : Holding) : Type 0 where
  pub measured : AreMeasured s.instants
  pub always_ticks : AlwaysTicks h.always
  pub long : length h.numbers ≡ length s.model.names
  pub numbered : (x : ℕ) → x < length s.model.names → slice_get h.numbers x ≡ Some x
  pub waiting_plain : (entry : Entry) → IsAmong entry h.waiting → IsPlainEntry s entry

-- a slot has the part of a base partition with all its uses, and the classes of this partition have its place
pub record IsShareSlot (s : Setting) (uses : List Use) (classes places : List ℕ) (i : ℕ) (slot : Slot Piece) : Type 0 where
  pub partition : ℕ
  pub part_of : IsPartOf s (own_uses slot) places slot.piece.part
  pub of : (entry : Use) → Contains (own_uses slot) entry → partition_of s (class_of_equation s entry.equation) ≡ Some partition
  pub whole : (entry : Use) → Contains uses entry → partition_of s (class_of_equation s entry.equation) ≡ Some partition → Contains (own_uses slot) entry
  pub placed : (class : ℕ) → slice_get s.clocking.partitions class ≡ Some partition → slice_get classes class ≡ Some i

-- a name is owned by the slot whose uses reach it, and by no other
pub record AreOwners (slots : List (Slot Piece)) (owners : List (Option ℕ)) : Type 0 where
  pub owned : (i x : ℕ) (slot : Slot Piece) → slice_get slots i ≡ Some slot → IsReachedBy x (own_uses slot) → flattened (slice_get owners x) ≡ Some i
  pub only : (i x : ℕ) → flattened (slice_get owners x) ≡ Some i → (slot : Slot Piece) × (slice_get slots i ≡ Some slot) × IsReachedBy x (own_uses slot)

-- the last value before a moment of each name that the others do not reach, and its value at the moment before that
pub record IsLeftBeside (s : Setting) (others : List Use) (A : Assignment) (n : ℕ) (left : Left) : Type 0 where
  pub wide : length left.now ≡ length s.model.names
  pub long : length left.last ≡ length s.model.names
  pub now : (y k : ℕ) → (IsReachedBy y others → ⊥) → n ≡ suc k → value_in left.now y ≡ A y k
  pub last : (x : ℕ) → (IsReachedBy x others → ⊥) → IsValued s x → slice_get left.last x ≡ previous_value (name_ticks s A x) (A x) (start_of s x) n

-- what a share has is that of an assignment before moment n
pub record IsShareBefore (s : Setting) (uses others : List Use) (A : Assignment) (n : ℕ) (h : Holding) : Type 0 where
  pub settled : IsShareSettled s h
  pub room : length h.cells ≡ length s.model.names
  pub slots_are : (i : ℕ) (slot : Slot Piece) → slice_get h.slots i ≡ Some slot → IsShareSlot s uses h.classes h.places i slot
  pub owners_are : AreOwners h.slots h.owners
  pub left_is : IsLeftBeside s others A n h.left
  pub stand : (i : ℕ) (slot : Slot Piece) → slice_get h.slots i ≡ Some slot → StandsFor s A n slot.piece.part
