use Rattle.std.proofs.Common.{take, []}
use Rattle.clock_spread.specs.Found.{class_in}
use Rattle.clock_spread.specs.Queue.{Queues, IsNextTo}
use Rattle.clock_spread.proofs.queue.candidates.Given as goal

abbrev pub invariant-loop-class : goal.invariant-loop-class
invariant-loop-class l =
    Queues (IsNextTo (class_in l.fn.class_of) l.fn.lists (take l.class-index l.fn.last)) l.fn.clocked [] l.fn.marks l.next.items l.marks
