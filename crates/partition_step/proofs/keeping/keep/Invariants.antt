use Rattle.partition_step.specs.private.Stepping.{kept_cell}
use Rattle.partition_step.proofs.Lists.{WrittenTo}
use Rattle.partition_step.proofs.keeping.keep.Given as goal

abbrev pub invariant-loop-i : goal.invariant-loop-i
invariant-loop-i l = WrittenTo kept_cell l.fn.cells l.i l.cells
