use Rattle.moment_steps.specs.Ticked.{row_ticks}
use Rattle.moment_steps.specs.private.Marking.{AreSamePieces, AreMarkedTo}
use Rattle.moment_steps.proofs.marking.mark.Given as goal

abbrev pub invariant-loop-class : goal.invariant-loop-class
invariant-loop-class g l = record { same : AreSamePieces l.fn.slots l.slots; marked : AreMarkedTo l.class l.partitions (row_ticks l.ticks) l.slots }
