use Rattle.std.proofs.Common.{◌≡◌, ◌++◌, ◌+◌, ◌≤◌, drop, length, vec_len, vec_capacity}
use Rattle.flat_model.specs.Trace.{cells_text, column_texts, header_text}
use Rattle.trace_print.proofs.line.write_header.Given as goal

abbrev pub invariant-loop-name : goal.invariant-loop-name
invariant-loop-name l = record {
  text : l.line.items ++ cells_text (column_texts (drop l.name-index l.names)) ≡ header_text l.names;
  len : vec_len l.line + length (cells_text (column_texts (drop l.name-index l.names))) ≤ vec_capacity l.line;
  room : vec_capacity l.line ≡ vec_capacity l.fn.line;
}
