use Rattle.std.proofs.Common.{◌≡◌, map, take}
use Rattle.class_order.specs.private.Ranks as meaning
use Rattle.class_order.proofs.ranks.places_of.Given as goal

abbrev pub invariant-loop-class : goal.invariant-loop-class
invariant-loop-class l = l.placed.items ≡ map (meaning.placed l.named.file.classes.now) (take l.class-index l.named.reached.items)
