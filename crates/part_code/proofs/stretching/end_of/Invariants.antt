use Rattle.std.proofs.Common.{length, ◌-◌}
use Rattle.part_code.specs.private.Stretching.{IsEnd}
use Rattle.part_code.proofs.stretching.end_of.Given as goal

abbrev pub invariant-loop-end : goal.invariant-loop-end
invariant-loop-end l = IsEnd l.entries l.start l.end

abbrev pub decreases-loop-end : goal.decreases-loop-end
decreases-loop-end l = length l.entries - l.end
