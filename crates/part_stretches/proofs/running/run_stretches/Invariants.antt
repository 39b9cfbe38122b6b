use Rattle.std.proofs.Common.{length, ◌-◌}
use Rattle.part_stretches.proofs.Looping.{Runs}
use Rattle.part_stretches.proofs.running.run_stretches.Given as goal

abbrev pub invariant-loop-i : goal.invariant-loop-i
invariant-loop-i l = Runs l.ticking l.stretches l.i l.cells l.fn.cells

abbrev pub decreases-loop-i : goal.decreases-loop-i
decreases-loop-i l = length l.stretches - l.i
