use Rattle.std.proofs.Common.{◌≡◌, ◌≤◌, length}
use Rattle.flat_model.specs.Trace.{header_text}
use Rattle.print_tests.proofs.trace_lines.columns_are_all_but_clocks.Given as goal

abbrev pub invariant-loop-row : goal.invariant-loop-row
invariant-loop-row g l = record {
  columns : l.line.columns ≡ 3;
  header : length (header_text l.flat.names) ≤ l.line.bytes;
}
