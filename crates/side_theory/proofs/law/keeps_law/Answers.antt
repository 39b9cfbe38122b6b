use Rattle.side_theory.proofs.Keeping.{keeps_next}
use Rattle.side_theory.proofs.law.keeps_law.Goals as goal

pub returns : goal.returns
returns c = λ s S m row at t cells set. keeps_next s S m row at t cells set
