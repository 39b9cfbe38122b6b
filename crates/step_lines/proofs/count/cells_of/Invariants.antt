use Rattle.step_lines.proofs.Counting.{Counted}
use Rattle.step_lines.proofs.count.cells_of.Given as goal

abbrev pub invariant-loop-i : goal.invariant-loop-i
invariant-loop-i l = Counted l.code l.i l.count

abbrev pub decreases-loop-i : goal.decreases-loop-i
decreases-loop-i l = l.i
