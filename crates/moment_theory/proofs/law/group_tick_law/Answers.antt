use Rattle.moment_theory.proofs.Groups.{class_local}
use Rattle.moment_theory.proofs.FromRunnable.{facts_of}
use Rattle.moment_theory.proofs.law.group_tick_law.Goals as goal

pub returns : goal.returns
returns c = λ s group S T m runs same class within k le. class_local s (facts_of s runs).unclocked group S T m same class within k le
