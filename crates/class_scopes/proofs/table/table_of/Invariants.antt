use Rattle.class_scopes.proofs.Numbers.{IsTabled}
use Rattle.class_scopes.proofs.table.table_of.Given as goal

abbrev pub invariant-loop-number : goal.invariant-loop-number
invariant-loop-number l = IsTabled l.text l.spans l.number l.table l.repeated
