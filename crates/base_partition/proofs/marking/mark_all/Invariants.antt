use Rattle.std.proofs.Common.{length, take}
use Rattle.base_partition.specs.private.Marks.{HasMarks}
use Rattle.base_partition.proofs.marking.mark_all.Given as goal

abbrev pub invariant-loop-x : goal.invariant-loop-x
invariant-loop-x l = HasMarks l.fn.members l.fn.class_of (take l.x-index l.fn.list) (length l.fn.marks) l.marks
