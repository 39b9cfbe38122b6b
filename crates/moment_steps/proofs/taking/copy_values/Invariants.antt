use Rattle.partition_step.proofs.Lists.{WrittenTo}
use Rattle.moment_steps.specs.Opening.{value_by}
use Rattle.moment_steps.proofs.taking.copy_values.Given as goal

abbrev pub invariant-loop-at : goal.invariant-loop-at
invariant-loop-at l = WrittenTo (value_by l.cells) l.fn.now l.at l.now
