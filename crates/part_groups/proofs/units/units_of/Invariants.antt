use Rattle.part_groups.proofs.Numbering.{UnitsTo}
use Rattle.part_groups.proofs.units.units_of.Given as goal

abbrev pub invariant-loop-stage : goal.invariant-loop-stage
invariant-loop-stage l = UnitsTo l.count l.stages l.stage-index l.of_use l.next
