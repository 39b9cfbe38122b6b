use Rattle.std.proofs.Common.{arith}
use Rattle.instance_totals.specs.Weights.{number_at}
use Rattle.instance_totals.specs.private.Levels.{weight}
use Rattle.instance_totals.proofs.Sums.{one_added, all_added}
use Rattle.instance_totals.proofs.weighing.Weighing.total_in.Goals as goal

pub loop-element-preserved : goal.loop-element-preserved
loop-element-preserved c =
    let text = c.args.self.now.file.now.text.now in
    let classes = c.args.self.now.file.now.classes.now in
    one_added (weight text classes c.args.self.now.variable (number_at c.args.below.now)) c.elements_of-element-items.result.now c.loop-element.element-index c.element-item.result
    (omega arith) c.element-item.is c.args.self.now.most (number_at c.args.self.now.own.now c.args.class) c.loop-element.total c.added-total.result c.loop-element.invariant
    (rw (← c.weight.ensures) c.added-total.ensures)

pub returns : goal.returns
returns c =
    let text = c.args.self.now.file.now.text.now in
    let classes = c.args.self.now.file.now.classes.now in
    all_added (weight text classes c.args.self.now.variable (number_at c.args.below.now)) c.elements_of-element-items.result.now _ c.loop-element.element-index (omega arith)
    c.elements_of-element-items.ensures c.args.self.now.most (number_at c.args.self.now.own.now c.args.class) c.loop-element.total c.loop-element.invariant
