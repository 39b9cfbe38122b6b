use Rattle.moment_moves.proofs.Ticking.{ticks_told}
use Rattle.moment_moves.proofs.law.ticks_law.Goals as goal

pub returns : goal.returns
returns c = λ s S n plan class is. ticks_told s S n plan class is
