-- The values of clocked names at a moment, and the failures that pieces tell. This project's own.
use Rattle.std.specs.Prelude.{ℕ, List, Option, Some, None, slice_get, if◌then◌else◌}
use Rattle.sync_values.specs.declared.value.Value.{Value}
use Rattle.flat_model.specs.declared.clock.Clocking.{Clocking}
use Rattle.flat_model.specs.Setting.{flattened}
use Rattle.first_failure.specs.declared.least.EquationFailing.{EquationFailing}
use Rattle.fork_steps.specs.declared.slot.Slot.{Slot}
use Rattle.tree_step.specs.Cells.{cell_in}
use Rattle.tree_step.specs.Frames.{now_in}
use Rattle.moment_steps.specs.declared.piece.Piece.{Piece}

-- the failure that a slot tells, where it counts
abbrev pub told_in : Slot Piece → Option EquationFailing
told_in slot = if slot.counts then slot.piece.told else None

-- the base partition of a name, where a clock governs it
abbrev pub partition_by : List ℕ → Option ℕ → Option ℕ
partition_by partitions None = None
partition_by partitions (Some class) = slice_get partitions class

abbrev pub partition_in : Clocking → ℕ → Option ℕ
partition_in clocking name = partition_by clocking.partitions (flattened (slice_get clocking.of_name name))

-- the value of a name from a slot, where it counts
abbrev pub value_from : List ℕ → ℕ → Slot Piece → Option Value
value_from places name slot = if slot.counts then now_in (cell_in places slot.piece.part.cells.items name) else None

abbrev pub value_of_slot : List ℕ → ℕ → Option (Slot Piece) → Option Value
value_of_slot places name None = None
value_of_slot places name (Some slot) = value_from places name slot

-- the value of a name: of a clocked one that from the slot of its partition, of another the one that is there
abbrev pub gathered : List (Slot Piece) → List ℕ → Option ℕ → Option ℕ → Option Value → Option Value
gathered slots places (Some partition) (Some name) there = value_of_slot places name (slice_get slots partition)
gathered slots places (Some partition) None there = None
gathered slots places None name there = there

abbrev pub gathered_at : Clocking → List ℕ → List ℕ → List (Slot Piece) → ℕ → Option Value → Option Value
gathered_at clocking numbers places slots at there = gathered slots places (partition_in clocking at) (slice_get numbers at) there
