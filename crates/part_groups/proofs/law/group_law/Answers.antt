use Rattle.part_groups.proofs.Grouped.{together, joined_alike}
use Rattle.part_groups.proofs.law.group_law.Goals as goal

pub returns : goal.returns
returns c = λ equations count stages uses groups are a b f g one other. (together equations count stages uses groups are a b f g one other, joined_alike equations count stages uses groups are a b f g one other)
