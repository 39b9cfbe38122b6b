use Rattle.window_join.proofs.Windowed.{window_run}
use Rattle.window_join.proofs.law.window_law.Goals as goal

pub returns : goal.returns
returns c = λ s uses stages A U n window. window_run s uses stages U A n window
