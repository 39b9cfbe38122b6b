use Rattle.std.proofs.Common.{◌∙◌, ◌≤◌, length, arith}
use Rattle.model_values.proofs.Totals.{needs_all}
use Rattle.model_values.proofs.model.needs.Goals as goal

pub returns : goal.returns
returns c =
    let past : length c.args.items.now ≤ c.loop-item.item-index = omega arith in
    c.loop-item.invariant ∙ needs_all c.args.file.now.text.now c.args.file.now.classes.now c.args.items.now c.loop-item.item-index past
