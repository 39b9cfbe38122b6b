use Rattle.std.proofs.Common.{◌≡◌, ◌++◌, drop}
use Rattle.flat_model.specs.Trace.{columns_from, columns_of}
use Rattle.moment_inputs.proofs.columns.list_columns.Given as goal

abbrev pub invariant-loop-number : goal.invariant-loop-number
invariant-loop-number l = l.columns ++ columns_from l.number (drop l.number l.names) ≡ columns_of l.names
