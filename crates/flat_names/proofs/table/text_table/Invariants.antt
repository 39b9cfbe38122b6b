use Rattle.std.proofs.Common.{map, take}
use Rattle.class_scopes.specs.Tables.{IsTableOf}
use Rattle.flat_names.proofs.Tabled.{itself}
use Rattle.flat_names.proofs.table.text_table.Given as goal

abbrev pub invariant-loop-number : goal.invariant-loop-number
invariant-loop-number l = IsTableOf (map itself (take l.number l.names)) l.table
