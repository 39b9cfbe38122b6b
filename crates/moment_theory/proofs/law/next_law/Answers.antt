use Rattle.moment_theory.proofs.Settled.{next_only}
use Rattle.moment_theory.proofs.law.next_law.Goals as goal

pub returns : goal.returns
returns c = λ s uses order is S m before at here inputs last are taken sites solved. next_only s uses order is S m inputs last are taken before at here sites solved
