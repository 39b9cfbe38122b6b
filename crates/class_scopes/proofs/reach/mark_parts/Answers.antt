use Rattle.std.proofs.Common.{arith}
use Rattle.class_scopes.proofs.Marks.{part_reached, grows_more, parts_more}
use Rattle.class_scopes.proofs.reach.mark_parts.Goals as goal

pub mark_part-requires-clause-part : goal.mark_part-requires-clause-part
mark_part-requires-clause-part c part typed =
    part_reached c.args.file.now.text.now c.args.file.now.classes.now c.args.chosen c.args.class part c.loop-element.element-index c.elements_of-element-items.result.now c.element-item.result
    c.elements_of-element-items.ensures (omega arith) c.element-item.is typed c.requires.own

pub loop-element-preserved : goal.loop-element-preserved
loop-element-preserved c =
    let text = c.args.file.now.text.now in
    let classes = c.args.file.now.classes.now in
    let grows = c.in_ok-mark_part.ensures.grows in
    record {
      grows = grows_more text classes c.args.chosen c.args.seen.now.items c.loop-element.seen.items c.mark_part.new.seen.items c.args.reached.now.items c.loop-element.reached.items c.mark_part.new.reached.items c.loop-element.invariant.grows grows;
      parts = parts_more text classes c.elements_of-element-items.result.now c.loop-element.element-index c.element-item.result (omega arith) c.element-item.is
          c.loop-element.seen.items c.mark_part.new.seen.items grows.keeps c.in_ok-mark_part.ensures.marked c.loop-element.invariant.parts;
    }
