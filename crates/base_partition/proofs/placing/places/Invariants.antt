use Rattle.std.proofs.Common.{take}
use Rattle.base_partition.specs.private.Placed.{ArePlaces}
use Rattle.base_partition.proofs.placing.places.Given as goal

abbrev pub invariant-loop-first : goal.invariant-loop-first
invariant-loop-first l = ArePlaces l.fn.flat (take l.first-index l.fn.firsts) l.places
