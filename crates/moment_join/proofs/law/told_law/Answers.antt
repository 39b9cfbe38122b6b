use Rattle.moment_join.proofs.Tells.{told_least}
use Rattle.moment_join.proofs.law.told_law.Goals as goal

pub returns : goal.returns
returns c = λ s uses pure pieces waiting is S m inputs base owns row last staged first each behind told. told_least s uses pure pieces waiting is S m inputs base owns row last staged first each behind told
