use Rattle.partition_step.proofs.Lists.{WrittenTo}
use Rattle.moment_steps.specs.Keeping.{last_by}
use Rattle.moment_steps.proofs.keeping.keep_last.Given as goal

abbrev pub invariant-loop-at : goal.invariant-loop-at
invariant-loop-at l = WrittenTo (last_by l.now) l.fn.last l.at l.last
