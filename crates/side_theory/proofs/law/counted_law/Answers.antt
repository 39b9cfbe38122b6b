use Rattle.side_theory.proofs.Counting.{are_counted}
use Rattle.side_theory.proofs.law.counted_law.Goals as goal

pub returns : goal.returns
returns c = λ s uses before entries after ordered class lines of S m row begins. are_counted s uses before entries after ordered class lines of S m row begins
