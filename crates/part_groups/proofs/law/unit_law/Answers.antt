use Rattle.part_groups.proofs.Placed.{partition_placed, waiting_placed}
use Rattle.part_groups.proofs.law.unit_law.Goals as goal

pub returns : goal.returns
returns c = λ count stages uses. (partition_placed count stages uses, waiting_placed count stages uses)
