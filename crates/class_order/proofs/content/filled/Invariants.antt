use Rattle.class_order.specs.private.Contents.{AreMarks}
use Rattle.class_order.proofs.content.filled.Given as goal

abbrev pub invariant-loop-class : goal.invariant-loop-class
invariant-loop-class l = AreMarks l.named.file.text.now l.named.file.classes.now l.own l.order l.class-index l.marks.items
