use Rattle.std.proofs.Common.{length, ◌-◌, None}
use Rattle.first_failure.proofs.Looping.{Stands}
use Rattle.first_failure.proofs.careful.first_failure.Given as goal

abbrev pub invariant-loop-i : goal.invariant-loop-i
invariant-loop-i l = Stands l.ticking l.lines l.i (record { marks = l.marks; cells = l.cells; told = l.told }) (record { marks = l.fn.marks; cells = l.fn.cells; told = None })

abbrev pub decreases-loop-i : goal.decreases-loop-i
decreases-loop-i l = length l.lines - l.i
