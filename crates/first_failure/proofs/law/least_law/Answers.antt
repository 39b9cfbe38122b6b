use Rattle.first_failure.proofs.Turning.{both_ways, least}
use Rattle.first_failure.proofs.law.least_law.Goals as goal

pub returns : goal.returns
returns c = λ s uses before entries after ordered S m base last sound clear taken. (
  both_ways s uses before entries after ordered S m base last sound clear taken,
  least s uses before entries after ordered S m base last sound clear taken,
)
