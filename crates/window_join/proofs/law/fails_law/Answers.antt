use Rattle.window_join.proofs.Windowed.{fails_first}
use Rattle.window_join.proofs.law.fails_law.Goals as goal

pub returns : goal.returns
returns c = λ s uses stages U m site told fault is told_is. fails_first s uses stages U m site told fault is told_is
