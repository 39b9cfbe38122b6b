use Rattle.moment_join.proofs.GoesOn.{sites_alike}
use Rattle.moment_join.proofs.law.sites_law.Goals as goal

pub returns : goal.returns
returns c = λ s uses pure pieces waiting is reach S m inputs base owns row last staged. sites_alike s uses pure pieces waiting is reach S m inputs base owns row last staged
