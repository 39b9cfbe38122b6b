use Rattle.moment_theory.proofs.Settled.{whole_none}
use Rattle.moment_theory.proofs.law.whole_law.Goals as goal

pub returns : goal.returns
returns c = λ s uses order is S T m n low high here at kind fault. whole_none s uses order is S T m n low high here at kind fault
