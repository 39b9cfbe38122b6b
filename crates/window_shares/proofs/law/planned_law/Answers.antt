use Rattle.window_shares.proofs.Coursed.{planned}
use Rattle.window_shares.proofs.law.planned_law.Goals as goal

pub returns : goal.returns
returns c = λ s uses stages A n course count has. planned s uses stages A n course count has
