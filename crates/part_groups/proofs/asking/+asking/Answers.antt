use Rattle.std.proofs.Common.{ap, ◌∙◌}
use Rattle.std.proofs.lemmas.Result.{on_ok_weaker}
use Rattle.part_groups.specs.private.Asking.{names_in}
use Rattle.part_groups.proofs.Levels.{names_in-Const, names_in-FirstTick, names_in-IntervalTimes}
use Rattle.part_groups.proofs.Naming.{none_added, two_added, choice_added}
use Rattle.part_groups.proofs.asking.+asking.Goals as goal

pub add_names-returns-in_ok-add_names-in-Relation : goal.add_names-returns-in_ok-add_names-in-Relation
add_names-returns-in_ok-add_names-in-Relation t c = on_ok_weaker c.add_names-in-Relation.result
    (two_added c.args.names.now.items _ _ c.in-Relation.field-0 c.args.expr.now c.in-Relation.left c.in-Relation.right _ _ c.in-Relation.is c.get.ensures c.get-in-Relation.ensures c.in_ok-add_names-in-Relation.ensures)
    c.add_names-in-Relation.ensures

pub add_names-returns-in_ok-add_all-in-If-2 : goal.add_names-returns-in_ok-add_all-in-If-2
add_names-returns-in_ok-add_all-in-If-2 t c = on_ok_weaker c.add_names-in-If.result
    (choice_added c.args.names.now.items _ _ _ c.args.expr.now c.in-If.conditions c.in-If.branches _ _ c.in-If.other _ c.in-If.is c.as_slice-in-If.ensures c.as_slice-in-If-2.ensures c.get-in-If.ensures
    c.in_ok-add_all-in-If.ensures c.in_ok-add_all-in-If-2.ensures)
    c.add_names-in-If.ensures

pub add_names-returns-in-Const : goal.add_names-returns-in-Const
add_names-returns-in-Const t c = none_added c.args.names.now.items _ (ap names_in c.in-Const.is ∙ names_in-Const c.in-Const.field-0)

pub add_names-returns-in-FirstTick : goal.add_names-returns-in-FirstTick
add_names-returns-in-FirstTick t c = none_added c.args.names.now.items _ (ap names_in c.in-FirstTick.is ∙ names_in-FirstTick c.in-FirstTick.field-0)

pub add_names-returns-in-IntervalTimes : goal.add_names-returns-in-IntervalTimes
add_names-returns-in-IntervalTimes t c = none_added c.args.names.now.items _ (ap names_in c.in-IntervalTimes.is ∙ names_in-IntervalTimes c.in-IntervalTimes.field-0 c.in-IntervalTimes.field-1)
