use Rattle.std.proofs.Common.{length, ◌-◌}
use Rattle.step_lines.proofs.Placing.{Passed}
use Rattle.step_lines.proofs.running.place_of.Given as goal

abbrev pub invariant-loop-next : goal.invariant-loop-next
invariant-loop-next l = Passed l.marks l.left l.next

abbrev pub decreases-loop-next : goal.decreases-loop-next
decreases-loop-next l = length l.marks - l.next
