use Rattle.partition_step.proofs.Lists.{WrittenTo}
use Rattle.window_plan.specs.private.Cells.{shown_by}
use Rattle.window_plan.proofs.taking.show.Given as goal

abbrev pub invariant-loop-at : goal.invariant-loop-at
invariant-loop-at l = WrittenTo (shown_by l.numbers l.now) l.fn.cells l.at l.cells
