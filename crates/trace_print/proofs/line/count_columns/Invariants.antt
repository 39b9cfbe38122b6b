use Rattle.std.proofs.Common.{◌≡◌, ◌+◌, ◌≤◌, drop, length}
use Rattle.flat_model.specs.Trace.{column_texts, columns_of}
use Rattle.trace_print.proofs.line.count_columns.Given as goal

abbrev pub invariant-loop-name : goal.invariant-loop-name
invariant-loop-name l = record {
  so_far : l.columns + length (column_texts (drop l.name-index l.names)) ≡ length (columns_of l.names);
  few : l.columns ≤ l.name-index;
}
