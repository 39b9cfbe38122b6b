use Rattle.std.proofs.Common.{◌≡◌, ◌+◌, ◌*◌, ◌≤◌, drop, length}
use Rattle.flat_model.specs.Trace.{cells_text, column_texts, header_text}
use Rattle.trace_print.proofs.line.header_len.Given as goal

abbrev pub invariant-loop-name : goal.invariant-loop-name
invariant-loop-name l = record {
  so_far : l.len + length (cells_text (column_texts (drop l.name-index l.names))) ≡ length (header_text l.names) + 1;
  few : l.len ≤ 5 + 4128 * l.name-index;
}
