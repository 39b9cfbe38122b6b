use Rattle.std.proofs.Common.{◌≤◌}
use Rattle.part_code.proofs.Runs.{AreWithinTo}
use Rattle.part_code.proofs.stretching.room_for.Given as goal

abbrev pub invariant-loop-one : goal.invariant-loop-one
invariant-loop-one l = record { least : l.least ≤ l.count; within : AreWithinTo l.stretches l.one-index l.count }
