use Rattle.partition_step.specs.private.Stepping.{begun_at}
use Rattle.partition_step.proofs.Lists.{WrittenTo}
use Rattle.partition_step.proofs.showing.begin.Given as goal

abbrev pub invariant-loop-i : goal.invariant-loop-i
invariant-loop-i l = WrittenTo (begun_at l.answers l.classes l.clocks l.entries) l.fn.cells l.i l.cells
