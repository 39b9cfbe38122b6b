-- What is kept before a moment, and behind it. This project's own.
use Rattle.std.specs.Prelude.{◌≡◌, ℕ, suc, ◌<◌, ◌^◌, Bool, List, length, None, Some, slice_get}
use Rattle.flat_model.specs.declared.table.Left.{Left}
use Rattle.flat_model.specs.Values.{value_in}
use Rattle.flat_model.specs.Assignment.{Assignment, previous_value}
use Rattle.flat_model.specs.Given.{Row, with_row}
use Rattle.flat_model.specs.Meets.{MeetsAt}
use Rattle.flat_model.specs.Setting.{Setting, start_of, name_ticks}
use Rattle.moment_theory.proofs.Meeting.{IsValued}
use Rattle.fork_steps.specs.declared.slot.Slot.{Slot}
use Rattle.tree_step.specs.declared.cell.Cell.{Cell}
use Rattle.tree_step.specs.declared.frame.ClockNow.{ClockNow}
use Rattle.tree_step.specs.declared.taking.Entry.{Entry}
use Rattle.partition_step.specs.Parts.{StandsFor}
use Rattle.moment_steps.specs.declared.piece.Piece.{Piece}
use Rattle.moment_steps.specs.declared.taking.UnclockedReads.{UnclockedReads}
use Rattle.moment_steps.specs.Settled.{IsSettled, IsSlotOf}

-- the last value of each name before a moment, and its value at the moment before that, of which there is none before Initial
pub record IsLeftAt (s : Setting) (A : Assignment) (n : ℕ) (left : Left) : Type 0 where
  pub wide : length left.now ≡ length s.model.names
  pub long : length left.last ≡ length s.model.names
  pub first : (y : ℕ) → n ≡ 0 → value_in left.now y ≡ None
  pub now : (y k : ℕ) → n ≡ suc k → value_in left.now y ≡ A y k
  pub last : (x : ℕ) → IsValued s x → slice_get left.last x ≡ previous_value (name_ticks s A x) (A x) (start_of s x) n

-- what is kept is that of an assignment before moment n: the base partitions stand for it, and the values at the moment before are there
pub record StandsBefore (s : Setting) (A : Assignment) (n : ℕ) (pure waiting : List Entry) (noted : UnclockedReads) (always : List ClockNow) (numbers : List ℕ) (cells : List Cell) (ticked : List Bool) (places : List ℕ) (slots : List (Slot Piece)) (left : Left) : Type 0 where
  pub settled : IsSettled s pure waiting noted always numbers
  pub room : length cells ≡ length s.model.names
  pub told_room : length ticked ≡ length s.clocking.clocks
  pub few : length s.clocking.clocks < 2 ^ 32
  pub slots_are : (i : ℕ) (slot : Slot Piece) → slice_get slots i ≡ Some slot → IsSlotOf s places i slot
  pub left_is : IsLeftAt s A n left
  pub stand : (i : ℕ) (slot : Slot Piece) → slice_get slots i ≡ Some slot → StandsFor s A n slot.piece.part

-- the uses of moment n were taken: where the assignment with the last row meets the model there, the base partitions stand for it before the next moment
pub record HasEnded (s : Setting) (A : Assignment) (n : ℕ) (last : Row) (pure waiting : List Entry) (noted : UnclockedReads) (always : List ClockNow) (numbers : List ℕ) (cells : List Cell) (ticked : List Bool) (places : List ℕ) (slots : List (Slot Piece)) (left : Left) : Type 0 where
  pub settled : IsSettled s pure waiting noted always numbers
  pub room : length cells ≡ length s.model.names
  pub told_room : length ticked ≡ length s.clocking.clocks
  pub few : length s.clocking.clocks < 2 ^ 32
  pub slots_are : (i : ℕ) (slot : Slot Piece) → slice_get slots i ≡ Some slot → IsSlotOf s places i slot
  pub left_is : IsLeftAt s A n left
  pub stand : MeetsAt s (with_row A n last) n → (i : ℕ) (slot : Slot Piece) → slice_get slots i ≡ Some slot → StandsFor s (with_row A n last) (suc n) slot.piece.part
