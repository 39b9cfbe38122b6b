use Rattle.std.proofs.Common.{take}
use Rattle.class_scopes.specs.Tables.{IsTableOf}
use Rattle.model_values.proofs.table.table_of_names.Given as goal

abbrev pub invariant-loop-number : goal.invariant-loop-number
invariant-loop-number l = IsTableOf (take l.number l.names) l.table
