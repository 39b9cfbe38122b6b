use Rattle.moment_join.proofs.Joined.{all_taken}
use Rattle.moment_join.proofs.law.taken_law.Goals as goal

pub returns : goal.returns
returns c = λ s uses pure pieces waiting is S m inputs base owns row last staged. all_taken s uses pure pieces waiting is S m inputs base owns row last staged
