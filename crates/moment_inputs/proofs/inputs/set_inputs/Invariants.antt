use Rattle.std.proofs.Common.{length}
use Rattle.moment_inputs.proofs.SetInputs.{AreSet}
use Rattle.moment_inputs.proofs.inputs.set_inputs.Given as goal

abbrev pub invariant-loop-column : goal.invariant-loop-column
invariant-loop-column l = AreSet l.table l.row l.column (length l.fn.now) l.now
