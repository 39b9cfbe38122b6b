use Rattle.std.proofs.Common.{rules, arith, ◌∙◌, ◌<◌, ◌≤◌, subst, length}
use Rattle.std.proofs.lemmas.List.{take_all}
use Rattle.clock_check.proofs.Marks.{AreMarked, marked_more}
use Rattle.clock_check.proofs.condition.mark.Goals as goal

pub loop-node-preserved : goal.loop-node-preserved
loop-node-preserved c =
    let within : c.loop-node.node-index < length c.args.holds.now = search rules in (
      c.set_mark.ensures.length ∙ c.loop-node.invariant.0,
      marked_more c.args.marks.now c.loop-node.marks c.set_mark.new.marks c.args.class_of.now c.args.holds.now c.loop-node.node-index within c.set_mark.ensures.marks c.loop-node.invariant.1,
    )

pub returns-clause-marks : goal.returns-clause-marks
returns-clause-marks c =
    let past : length c.args.holds.now ≤ c.loop-node.node-index = omega arith in
    subst (λ l. AreMarked c.args.marks.now c.args.class_of.now l c.loop-node.marks) (take_all c.loop-node.node-index c.args.holds.now past) c.loop-node.invariant.1
