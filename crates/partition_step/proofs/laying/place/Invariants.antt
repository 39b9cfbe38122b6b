use Rattle.partition_step.proofs.Laid.{PlacedTo}
use Rattle.partition_step.proofs.laying.place.Given as goal

abbrev pub invariant-loop-i : goal.invariant-loop-i
invariant-loop-i l = PlacedTo l.uses l.fn.places l.i l.places
