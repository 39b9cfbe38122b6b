use Rattle.std.proofs.Common.{◌≡◌, map, take}
use Rattle.class_order.specs.private.Ranks.{class_at}
use Rattle.class_order.proofs.order.classes_at.Given as goal

abbrev pub invariant-loop-rank : goal.invariant-loop-rank
invariant-loop-rank l = l.classes.items ≡ map (class_at l.placed) (take l.rank-index l.ranks)
