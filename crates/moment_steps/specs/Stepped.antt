-- What the pieces of a moment are once they were stepped. This project's own.
use Rattle.std.specs.Prelude.{◌≡◌, ◌⊎◌, ℕ, true, false, List, length, Option, Some, slice_get}
use Rattle.fork_steps.specs.declared.slot.Slot.{Slot}
use Rattle.tree_step.specs.Starts.{uses_of}
use Rattle.partition_step.specs.declared.part.Outcome.{Outcome}
use Rattle.partition_step.specs.Steps.{Showing, StepsFrom, failing_in}
use Rattle.moment_steps.specs.declared.piece.Piece.{Piece}

-- a piece was stepped, and has its failure
pub record IsPieceStepped (showing : Showing) (old new : Piece) : Type 0 where
  pub result : Outcome
  pub steps : StepsFrom showing old.part new.part result
  pub told : new.told ≡ failing_in result
  pub same : uses_of new.part.entries ≡ uses_of old.part.entries

-- a slot does not count, and no class of its partition ticks
pub record HasRested (showing : Showing) (partitions : List ℕ) (i : ℕ) (old new : Slot Piece) : Type 0 where
  pub counts : new.counts ≡ false
  pub same : new.piece ≡ old.piece
  pub rests : (class : ℕ) → slice_get partitions class ≡ Some i → showing.ticks class ≡ false

pub record HasCounted (showing : Showing) (old new : Slot Piece) : Type 0 where
  pub counts : new.counts ≡ true
  pub stepped : IsPieceStepped showing old.piece new.piece

-- each slot was stepped, or rested
pub record AreSteppedAt (showing : Showing) (partitions : List ℕ) (old new : List (Slot Piece)) : Type 0 where
  pub long : length new ≡ length old
  pub each : (i : ℕ) (slot : Slot Piece) → slice_get new i ≡ Some slot → (was : Slot Piece) × (slice_get old i ≡ Some was) × (HasCounted showing was slot ⊎ HasRested showing partitions i was slot)
