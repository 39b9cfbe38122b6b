use Rattle.moment_theory.proofs.Settled.{only_one}
use Rattle.moment_theory.proofs.law.only_law.Goals as goal

pub returns : goal.returns
returns c = λ s uses order is S T m le here there. only_one s uses order is S T m le here there
