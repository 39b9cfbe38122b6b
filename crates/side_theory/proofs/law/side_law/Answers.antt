use Rattle.side_theory.proofs.Side.{does_as}
use Rattle.side_theory.proofs.law.side_law.Goals as goal

pub returns : goal.returns
returns c = λ s uses runs are entry side class used is S m row counts. does_as s uses runs are entry side class used is S m row counts
