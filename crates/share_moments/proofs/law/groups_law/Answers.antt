use Rattle.share_moments.proofs.Grouping.{groups_apart}
use Rattle.share_moments.proofs.law.groups_law.Goals as goal

pub returns : goal.returns
returns c = λ s uses count stages groups are deal of keeps. groups_apart s uses count stages groups are deal of keeps
