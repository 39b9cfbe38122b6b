use Rattle.partition_step.proofs.Lists.{WrittenTo}
use Rattle.share_run.specs.private.Gathering.{owned_at}
use Rattle.share_run.proofs.gathering.gather.Given as goal

abbrev pub invariant-loop-at : goal.invariant-loop-at
invariant-loop-at l = WrittenTo (owned_at l.owners l.numbers l.places l.slots) l.fn.now l.at l.now
