use Rattle.share_join.proofs.Dealing.{deals}
use Rattle.share_join.proofs.law.deal_law.Goals as goal

pub returns : goal.returns
returns c = λ s uses pure pieces waiting is reach deal of apart. deals s uses pure pieces waiting is reach deal of apart
