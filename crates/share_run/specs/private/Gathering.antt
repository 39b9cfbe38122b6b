-- The values of names that the base partitions of a share reach.
use Rattle.std.specs.Prelude.{ℕ, List, Option, Some, None, slice_get}
use Rattle.sync_values.specs.declared.value.Value.{Value}
use Rattle.flat_model.specs.Setting.{flattened}
use Rattle.fork_steps.specs.declared.slot.Slot.{Slot}
use Rattle.moment_steps.specs.declared.piece.Piece.{Piece}
use Rattle.moment_steps.specs.Gathered.{value_of_slot}

-- the value of a name: of an owned one that from the slot of its owner, of another the one that is there
abbrev pub owned : List (Slot Piece) → List ℕ → Option ℕ → Option ℕ → Option Value → Option Value
owned slots places (Some owner) (Some name) there = value_of_slot places name (slice_get slots owner)
owned slots places (Some owner) None there = None
owned slots places None name there = there

abbrev pub owned_at : List (Option ℕ) → List ℕ → List ℕ → List (Slot Piece) → ℕ → Option Value → Option Value
owned_at owners numbers places slots at there = owned slots places (flattened (slice_get owners at)) (slice_get numbers at) there
