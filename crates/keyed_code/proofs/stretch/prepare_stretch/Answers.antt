use Rattle.keyed_code.specs.Table.{table_of}
use Rattle.step_lines.proofs.Preparing.{prepared_more, lines_refused}
use Rattle.keyed_code.proofs.stretch.prepare_stretch.Goals as goal

pub returns-in_err-emit : goal.returns-in_err-emit
returns-in_err-emit c =
    lines_refused (table_of c.args.table.now) c.args.free c.args.lines.now c.loop-i.i c.index-lines-i.result c.from_residual.result c.in_err-emit.field-0.0 c.loop-i-test.true c.loop-i.invariant.within c.index-lines-i.is
    c.from_residual.ensures.0 c.from_residual.ensures.1 c.in_err-emit.ensures

pub loop-i-preserved : goal.loop-i-preserved
loop-i-preserved c =
    prepared_more (table_of c.args.table.now) c.args.free c.args.lines.now c.loop-i.i _ _ _ _ _ c.index-lines-i.result c.loop-i-test.true c.loop-i.invariant c.index-lines-i.is c.in_ok-emit.ensures c.len.ensures c.in_ok-mark.ensures.made
