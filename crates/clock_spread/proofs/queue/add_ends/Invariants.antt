use Rattle.std.proofs.Common.{take}
use Rattle.clock_spread.specs.Found.{class_in}
use Rattle.clock_spread.specs.Queue.{Queues, IsOtherEnd}
use Rattle.clock_spread.proofs.queue.add_ends.Given as goal

abbrev pub invariant-loop-relation : goal.invariant-loop-relation
invariant-loop-relation l =
    Queues (IsOtherEnd (class_in l.fn.class_of) l.fn.class (take l.relation-index l.fn.touching)) l.fn.clocked l.fn.next.items l.fn.marks l.next.items l.marks
