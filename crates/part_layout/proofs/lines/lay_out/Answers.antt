use Rattle.std.proofs.Common.{ap, ◌∙◌, ◌+◌, drop}
use Rattle.cell_keys.specs.Cells.{with_keys}
use Rattle.part_layout.specs.Reads.{keys_of_line, keys_of_lines}
use Rattle.part_layout.proofs.Reading.{lays_err, lines_from, one_line_more}
use Rattle.part_layout.proofs.lines.lay_out.Goals as goal

pub returns-in_err-add_line : goal.returns-in_err-add_line
returns-in_err-add_line c =
    lays_err (keys_of_lines c.args.lines.now) c.loop-line.keys (keys_of_line c.line-item.result) (keys_of_lines (drop (c.loop-line.line-index + 1) c.args.lines.now)) c.add_line.new.keys
    c.from_residual.result c.in_err-add_line.field-0.0 c.from_residual.ensures.0 c.from_residual.ensures.1
    (ap (with_keys c.loop-line.keys) (lines_from c.args.lines.now c.loop-line.line-index c.line-item.result c.loop-line-test.true c.line-item.is) ∙ c.loop-line.invariant)
    c.in_err-add_line.ensures

pub loop-line-preserved : goal.loop-line-preserved
loop-line-preserved c =
    one_line_more c.loop-line.keys _ _ c.args.lines.now c.loop-line.line-index c.line-item.result c.loop-line-test.true c.line-item.is c.loop-line.invariant c.in_ok-add_line.ensures
