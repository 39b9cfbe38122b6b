use Rattle.step_lines.proofs.Counting.{counted_more, counted_all}
use Rattle.step_lines.proofs.count.cells_of.Goals as goal

pub loop-i-preserved : goal.loop-i-preserved
loop-i-preserved c = counted_more c.args.code.now c.loop-i.i c.loop-i.count c.cells_of_one.result c.larger-count.result _ c.loop-i-test.true c.loop-i.invariant c.cells_of_one.ensures c.larger-count.ensures

pub returns : goal.returns
returns c = counted_all c.args.code.now c.loop-i.i c.loop-i.count c.loop-i-test.false c.loop-i.invariant
