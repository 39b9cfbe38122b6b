use Rattle.side_theory.proofs.Answering.{is_answer}
use Rattle.side_theory.proofs.law.typed_law.Goals as goal

pub returns : goal.returns
returns c = λ s uses runs are entry side class used of S m row meets typed equation name can. is_answer s uses runs are entry side class used of S m row meets typed equation name can
