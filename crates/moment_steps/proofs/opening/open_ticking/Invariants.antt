use Rattle.partition_step.proofs.Lists.{WrittenTo}
use Rattle.moment_steps.specs.Ticked.{row_ticks}
use Rattle.moment_steps.specs.Opening.{opened_by, standing}
use Rattle.moment_steps.proofs.opening.open_ticking.Given as goal

abbrev pub invariant-loop-at : goal.invariant-loop-at
invariant-loop-at l = WrittenTo (opened_by l.numbers l.last l.now (standing l.clocking (row_ticks l.ticks) l.answers)) l.fn.cells l.at l.cells
