use Rattle.base_partition.specs.private.Numbered.{AreNumbers}
use Rattle.base_partition.proofs.numbering.number.Given as goal

abbrev pub invariant-loop-i : goal.invariant-loop-i
invariant-loop-i l = AreNumbers l.fn.first l.fn.members l.i l.it.firsts l.it.places
