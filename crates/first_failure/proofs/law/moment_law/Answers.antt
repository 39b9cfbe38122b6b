use Rattle.first_failure.proofs.Carrying.{carried}
use Rattle.first_failure.proofs.law.moment_law.Goals as goal

pub returns : goal.returns
returns c = λ s uses first rest pieces is apart S m inputs base are taken owns alone row together beside last others i piece found told least.
    carried s uses first rest pieces is apart S m inputs base are taken owns alone row together beside last others i piece found told least
