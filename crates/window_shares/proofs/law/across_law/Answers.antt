use Rattle.window_shares.proofs.Across.{across}
use Rattle.window_shares.proofs.law.across_law.Goals as goal

pub returns : goal.returns
returns c = λ s uses stages moments A n runs count. across s uses stages moments A n runs count
