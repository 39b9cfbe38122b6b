use Rattle.moment_theory.proofs.Turns.{at_its_turn}
use Rattle.moment_theory.proofs.law.turn_law.Goals as goal

pub returns : goal.returns
returns c = λ s uses before after entry is S m inputs row last are taken rest. at_its_turn s uses before after entry is S m inputs row last are taken rest
