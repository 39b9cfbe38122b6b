use Rattle.std.proofs.Common.{length, ◌-◌, ◌≤◌}
use Rattle.part_code.specs.private.Lines.{AreJoinedTo}
use Rattle.part_code.proofs.sides.lines_for.Given as goal

abbrev pub invariant-loop-i : goal.invariant-loop-i
invariant-loop-i l = AreJoinedTo l.entries l.sides l.i l.lines.items × (l.i ≤ length l.entries)

abbrev pub decreases-loop-i : goal.decreases-loop-i
decreases-loop-i l = length l.entries - l.i
