use Rattle.window_join.proofs.Windowed.{alone_behind}
use Rattle.window_join.proofs.law.alone_law.Goals as goal

pub returns : goal.returns
returns c = λ s uses stages A U n count. alone_behind s uses stages U A n count
