use Rattle.first_failure.proofs.Failing.{some_told}
use Rattle.first_failure.proofs.law.some_law.Goals as goal

pub returns : goal.returns
returns c = λ s uses before after blocks ordered S m row last sound clear taken i failing of result least.
    some_told s uses before after blocks ordered S m row last sound clear taken i failing of result least
