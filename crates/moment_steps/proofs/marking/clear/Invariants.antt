use Rattle.moment_steps.specs.private.Marking.{AreSamePieces}
use Rattle.moment_steps.proofs.marking.clear.Given as goal

abbrev pub invariant-loop-place : goal.invariant-loop-place
invariant-loop-place g l = AreSamePieces l.fn.slots l.slots
