use Rattle.moment_theory.proofs.Settled.{met_has_run}
use Rattle.moment_theory.proofs.law.met_law.Goals as goal

pub returns : goal.returns
returns c = λ s uses order is S m le meets. met_has_run s uses order is S m le meets
