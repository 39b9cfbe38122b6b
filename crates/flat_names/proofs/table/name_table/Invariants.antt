use Rattle.std.proofs.Common.{◌≡◌, false, true, map, take, AllPairs}
use Rattle.class_scopes.specs.Tables.{IsTableOf}
use Rattle.flat_names.proofs.Apart.{Differ}
use Rattle.flat_names.proofs.table.name_table.Given as goal

abbrev pub invariant-loop-number : goal.invariant-loop-number
invariant-loop-number l = record {
  table : IsTableOf (map (λ name. name.text) (take l.number l.names)) l.table;
  apart : l.apart ≡ true → AllPairs Differ (take l.number l.names);
  alike : l.apart ≡ false → AllPairs Differ l.names → ⊥;
}
