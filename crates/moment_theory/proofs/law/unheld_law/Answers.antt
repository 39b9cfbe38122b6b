use Rattle.moment_theory.proofs.Unheld.{unheld_pure}
use Rattle.moment_theory.proofs.law.unheld_law.Goals as goal

pub returns : goal.returns
returns c = λ s uses group runs are unheld. unheld_pure s uses group runs are unheld
