use Rattle.side_theory.proofs.Turns.{stretch_ends}
use Rattle.side_theory.proofs.law.stretch_law.Goals as goal

pub returns : goal.returns
returns c = λ s uses runs are class entries lines of S m row views counted shown. stretch_ends s uses runs are class S m entries lines of row views counted shown
