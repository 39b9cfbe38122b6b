use Rattle.std.proofs.Common.{take}
use Rattle.class_scopes.specs.Tables.{IsTableOf}
use Rattle.instance_sizes.proofs.names.table_of_names.Given as goal

abbrev pub invariant-loop-number : goal.invariant-loop-number
invariant-loop-number l = IsTableOf (take l.number l.names) l.table
