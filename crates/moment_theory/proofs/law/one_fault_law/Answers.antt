use Rattle.moment_theory.proofs.Settled.{one_fault}
use Rattle.moment_theory.proofs.law.one_fault_law.Goals as goal

pub returns : goal.returns
returns c = λ s uses order is S T m n low high at spot kind failure first second. one_fault s uses order is S T m n low high at spot kind failure first second
