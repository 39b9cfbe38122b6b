use Rattle.moment_theory.proofs.Settled.{none_meet}
use Rattle.moment_theory.proofs.law.stop_law.Goals as goal

pub returns : goal.returns
returns c = λ s uses order is S m before inputs last are taken fails T there. none_meet s uses order is S m inputs last are taken before fails T there
