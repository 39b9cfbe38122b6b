use Rattle.std.proofs.Common.{◌≡◌, length}
use Rattle.base_partition.specs.private.First.{AllMarked}
use Rattle.part_groups.proofs.first.mark_all.Given as goal

abbrev pub invariant-loop-class : goal.invariant-loop-class
invariant-loop-class l = (length l.first ≡ length l.fn.first) × AllMarked l.class-index l.fn.classes l.fn.first l.first
