-- What stays the same from moment to moment. This project's own.
use Rattle.std.specs.Prelude.{◌≡◌, ℕ, ◌<◌, true, List, length, map, Option, Some, None, slice_get, Contains}
use Rattle.flat_model.specs.declared.equation.Equation.{Equation}
use Rattle.flat_model.specs.Intervals.{IsMeasurable}
use Rattle.flat_model.specs.Setting.{Setting, class_of_equation, partition_of}
use Rattle.flat_model.specs.Uses.{Use}
use Rattle.eq_orient.specs.Spine.{IsSpineOf}
use Rattle.fork_steps.specs.declared.slot.Slot.{Slot}
use Rattle.tree_step.specs.declared.frame.ClockNow.{ClockNow}
use Rattle.tree_step.specs.declared.taking.Entry.{Entry}
use Rattle.tree_step.specs.Changed.{AreReadsOf}
use Rattle.tree_step.specs.Frames.{shown_elapsed}
use Rattle.tree_step.specs.Starts.{uses_of, IsAmong}
use Rattle.moment_body.specs.Stages.{Stages}
use Rattle.partition_step.specs.Parts.{IsPartOf}
use Rattle.partition_step.specs.Steps.{AreMeasured}
use Rattle.moment_steps.specs.declared.piece.Piece.{Piece}
use Rattle.moment_steps.specs.declared.taking.UnclockedReads.{UnclockedReads}

-- the uses of a slot's part
abbrev pub own_uses : Slot Piece → List Use
own_uses slot = uses_of slot.piece.part.entries

-- the uses by their stages
abbrev pub stages_in : List Entry → List Entry → List (Slot Piece) → Stages
stages_in pure waiting slots = record { pure = uses_of pure; pieces = map own_uses slots; waiting = uses_of waiting }

-- an unclocked use that can be solved, shown the one clock that always ticks
pub record IsPlainEntry (s : Setting) (entry : Entry) : Type 0 where
  pub equation : Equation
  pub found : slice_get s.model.equations entry.equation ≡ Some equation
  pub spine : IsSpineOf entry.name equation entry.spine.left
  pub unclocked : class_of_equation s entry.equation ≡ None
  pub clock : entry.clock ≡ 0

-- what is shown of no clock
pub record AlwaysTicks (always : List ClockNow) : Type 0 where
  pub clock : ClockNow
  pub found : slice_get always 0 ≡ Some clock
  pub ticks : clock.ticks ≡ true
  pub measured : IsMeasurable (shown_elapsed clock.first clock.interval)

-- the unclocked uses of a model, with what they read and the numbers of its names; and its instants can be measured
pub record IsSettled (s : Setting) (pure waiting : List Entry) (noted : UnclockedReads) (always : List ClockNow) (numbers : List ℕ) : Type 0 where
  pub measured : AreMeasured s.instants
  pub always_ticks : AlwaysTicks always
  pub long : length numbers ≡ length s.model.names
  pub numbered : (x : ℕ) → x < length s.model.names → slice_get numbers x ≡ Some x
  pub pure_plain : (entry : Entry) → IsAmong entry pure → IsPlainEntry s entry
  pub waiting_plain : (entry : Entry) → IsAmong entry waiting → IsPlainEntry s entry
  pub pure_reads : AreReadsOf s.model.equations pure noted.pure
  pub waiting_reads : AreReadsOf s.model.equations waiting noted.waiting

-- a slot has the part of the base partition of its number
pub record IsSlotOf (s : Setting) (places : List ℕ) (i : ℕ) (slot : Slot Piece) : Type 0 where
  pub part_of : IsPartOf s (own_uses slot) places slot.piece.part
  pub partition : (entry : Use) → Contains (own_uses slot) entry → partition_of s (class_of_equation s entry.equation) ≡ Some i
