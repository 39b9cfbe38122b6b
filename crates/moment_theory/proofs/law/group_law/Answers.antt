use Rattle.moment_theory.proofs.Groups.{value_local}
use Rattle.moment_theory.proofs.FromRunnable.{facts_of}
use Rattle.moment_theory.proofs.law.group_law.Goals as goal

pub returns : goal.returns
returns c = λ s group S T m runs same e class within. value_local s (facts_of s runs).unclocked group S T m same e class within
