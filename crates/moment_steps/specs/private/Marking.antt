-- Which slots count.
use Rattle.std.specs.Prelude.{◌≡◌, ◌≢◌, ℕ, ◌<◌, Bool, false, List, length, Some, slice_get}
use Rattle.fork_steps.specs.declared.slot.Slot.{Slot}

-- the pieces are the same
pub record AreSamePieces {T : Type 0} (old new : List (Slot T)) : Type 0 where
  pub long : length new ≡ length old
  pub each : (i : ℕ) (slot : Slot T) → slice_get new i ≡ Some slot → (was : Slot T) × (slice_get old i ≡ Some was) × (slot.piece ≡ was.piece)

-- what does not count is not at this place, and did not count before
abbrev pub IsMarkedAt : {T : Type 0} → ℕ → List (Slot T) → List (Slot T) → Type 0
IsMarkedAt {T} place old new = (j : ℕ) (slot : Slot T) → slice_get new j ≡ Some slot → slot.counts ≡ false → (j ≢ place) × (slice_get old j ≡ Some slot)

-- no class of the first ones ticks of the partition of a slot that does not count
abbrev pub AreMarkedTo : {T : Type 0} → ℕ → List ℕ → (ℕ → Bool) → List (Slot T) → Type 0
AreMarkedTo {T} count partitions ticks slots = (j class : ℕ) (slot : Slot T) → class < count → slice_get slots j ≡ Some slot → slot.counts ≡ false → slice_get partitions class ≡ Some j → ticks class ≡ false

abbrev pub AreMarked : {T : Type 0} → List ℕ → (ℕ → Bool) → List (Slot T) → Type 0
AreMarked {T} partitions ticks slots = (j class : ℕ) (slot : Slot T) → slice_get slots j ≡ Some slot → slot.counts ≡ false → slice_get partitions class ≡ Some j → ticks class ≡ false
