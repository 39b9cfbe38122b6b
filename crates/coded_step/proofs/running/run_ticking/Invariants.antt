use Rattle.std.proofs.Common.{length, ◌-◌}
use Rattle.part_stretches.proofs.Looping.{Runs}
use Rattle.coded_step.specs.private.Landing.{ticking_of}
use Rattle.coded_step.proofs.running.run_ticking.Given as goal

abbrev pub invariant-loop-i : goal.invariant-loop-i
invariant-loop-i l = Runs (ticking_of l.clocks) l.stretches l.i l.words l.fn.words

abbrev pub decreases-loop-i : goal.decreases-loop-i
decreases-loop-i l = length l.stretches - l.i
