use Rattle.std.proofs.Common.{◌≡◌, map, take}
use Rattle.partition_step.specs.private.Laying.{new_cell}
use Rattle.partition_step.proofs.laying.cells_of.Given as goal

abbrev pub invariant-loop-entry : goal.invariant-loop-entry
invariant-loop-entry l = l.cells.items ≡ map (new_cell l.names) (take l.entry-index l.uses)
