use Rattle.partition_step.proofs.Lists.{WrittenTo}
use Rattle.moment_steps.specs.Keeping.{now_by}
use Rattle.moment_steps.proofs.keeping.keep_now.Given as goal

abbrev pub invariant-loop-at : goal.invariant-loop-at
invariant-loop-at l = WrittenTo (now_by l.now) l.fn.left l.at l.left
