use Rattle.std.proofs.Common.{length, ◌-◌, ◌≤◌}
use Rattle.part_code.specs.private.Stretching.{AreCodedTo}
use Rattle.part_code.proofs.stretching.stretches_for.Given as goal

abbrev pub invariant-loop-start : goal.invariant-loop-start
invariant-loop-start l = record { coded : AreCodedTo l.names l.keys l.entries l.lines l.start l.stretches.items; within : l.start ≤ length l.entries }

abbrev pub decreases-loop-start : goal.decreases-loop-start
decreases-loop-start l = length l.entries - l.start
