use Rattle.partition_step.proofs.Lists.{WrittenTo}
use Rattle.moment_steps.specs.Gathered.{gathered_at}
use Rattle.moment_steps.proofs.gathering.gather.Given as goal

abbrev pub invariant-loop-at : goal.invariant-loop-at
invariant-loop-at l = WrittenTo (gathered_at l.clocking l.numbers l.places l.slots) l.fn.now l.at l.now
