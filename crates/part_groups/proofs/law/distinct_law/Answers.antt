use Rattle.part_groups.proofs.Distinct.{distinct}
use Rattle.part_groups.proofs.law.distinct_law.Goals as goal

pub returns : goal.returns
returns c = distinct
