use Rattle.side_theory.proofs.Onward.{onward}
use Rattle.side_theory.proofs.law.onward_law.Goals as goal

pub returns : goal.returns
returns c = λ s uses before entries after ordered class lines of S m row views begins shown. onward s uses class S m before entries after ordered lines of row views begins shown
