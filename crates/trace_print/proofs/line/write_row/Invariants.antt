use Rattle.std.proofs.Common.{◌≡◌, ◌+◌, ◌*◌, ◌≤◌, ◌++◌, drop, map, vec_len, vec_capacity}
use Rattle.flat_model.specs.Trace.{cells_text, cell_text, row_text}
use Rattle.trace_print.proofs.line.write_row.Given as goal

abbrev pub invariant-loop-value : goal.invariant-loop-value
invariant-loop-value l = record {
  text : l.line.items ++ cells_text (map cell_text (drop l.value-index l.values)) ≡ row_text l.fn.at l.values;
  len : vec_len l.line ≤ 41 + 21 * l.value-index;
  room : vec_capacity l.line ≡ vec_capacity l.fn.line;
}
