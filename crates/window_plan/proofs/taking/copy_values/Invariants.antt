use Rattle.partition_step.proofs.Lists.{WrittenTo}
use Rattle.window_plan.specs.private.Cells.{value_by}
use Rattle.window_plan.proofs.taking.copy_values.Given as goal

abbrev pub invariant-loop-at : goal.invariant-loop-at
invariant-loop-at l = WrittenTo (value_by l.cells) l.fn.now l.at l.now
