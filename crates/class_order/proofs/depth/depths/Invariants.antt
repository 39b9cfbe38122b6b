use Rattle.class_order.specs.private.Depths.{AreDepths}
use Rattle.class_order.proofs.depth.depths.Given as goal

abbrev pub invariant-loop-class : goal.invariant-loop-class
invariant-loop-class l = AreDepths l.named.file.text.now l.named.file.classes.now l.order l.class-index l.depths.items
