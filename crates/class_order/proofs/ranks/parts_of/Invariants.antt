use Rattle.std.proofs.Common.{◌≡◌, flat_map, take}
use Rattle.class_order.specs.private.Ranks.{part_in}
use Rattle.class_order.proofs.ranks.parts_of.Given as goal

abbrev pub invariant-loop-element : goal.invariant-loop-element
invariant-loop-element l = l.parts.items ≡ flat_map (part_in l.file.text.now l.file.classes.now l.ranks) (take l.element-index l.element-items)
