use Rattle.std.proofs.Common.{◌≡◌, drop}
use Rattle.std.specs.List.{list_any}
use Rattle.class_order.specs.private.Contents.{has_content}
use Rattle.class_order.proofs.content.any_content.Given as goal

abbrev pub invariant-loop-element : goal.invariant-loop-element
invariant-loop-element l = list_any (has_content l.file.text.now l.file.classes.now l.marks) (drop l.element-index l.element-items)
    ≡ list_any (has_content l.file.text.now l.file.classes.now l.marks) l.element-items
