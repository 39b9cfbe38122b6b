use Rattle.part_groups.specs.private.Joining.{ArePairs}
use Rattle.part_groups.proofs.joining.needs.Given as goal

abbrev pub invariant-loop-at : goal.invariant-loop-at
invariant-loop-at l = ArePairs l.equations l.owners l.order l.units l.at l.pairs
