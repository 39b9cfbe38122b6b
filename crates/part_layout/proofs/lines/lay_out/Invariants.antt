use Rattle.std.proofs.Common.{◌≡◌, [], drop}
use Rattle.cell_keys.specs.Cells.{with_keys}
use Rattle.part_layout.specs.Reads.{keys_of_lines}
use Rattle.part_layout.proofs.lines.lay_out.Given as goal

abbrev pub invariant-loop-line : goal.invariant-loop-line
invariant-loop-line l = with_keys l.keys (keys_of_lines (drop l.line-index l.lines)) ≡ with_keys [] (keys_of_lines l.fn.lines)
