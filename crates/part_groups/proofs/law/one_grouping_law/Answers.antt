use Rattle.part_groups.proofs.Grouped.{one_grouping}
use Rattle.part_groups.proofs.law.one_grouping_law.Goals as goal

pub returns : goal.returns
returns c = one_grouping
