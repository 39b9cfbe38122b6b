use Rattle.part_groups.specs.private.Owners.{AreOwners}
use Rattle.part_groups.proofs.units.owners_of.Given as goal

abbrev pub invariant-loop-at : goal.invariant-loop-at
invariant-loop-at l = AreOwners l.names l.order l.units l.at l.owners.items
