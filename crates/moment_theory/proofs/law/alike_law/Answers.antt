use Rattle.moment_theory.proofs.SameUse.{does_alike}
use Rattle.moment_theory.proofs.law.alike_law.Goals as goal

pub returns : goal.returns
returns c = λ s uses runs are S m entry used waits a b sound agree. does_alike s uses runs are S m entry used waits a b sound agree
