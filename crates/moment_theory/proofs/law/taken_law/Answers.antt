use Rattle.moment_theory.proofs.Settled.{taken_is_given}
use Rattle.moment_theory.proofs.law.taken_law.Goals as goal

pub returns : goal.returns
returns c = λ s uses order is S m inputs last are taken. taken_is_given s uses order is S m inputs last are taken
