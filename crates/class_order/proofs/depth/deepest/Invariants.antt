use Rattle.std.proofs.Common.{◌≡◌, max, drop}
use Rattle.class_order.specs.private.Depths.{deepest_in}
use Rattle.class_order.proofs.depth.deepest.Given as goal

abbrev pub invariant-loop-element : goal.invariant-loop-element
invariant-loop-element l = max l.deepest (deepest_in l.file.text.now l.file.classes.now l.depths (drop l.element-index l.element-items))
    ≡ deepest_in l.file.text.now l.file.classes.now l.depths l.element-items
