use Rattle.share_moments.proofs.Sharing.{dealt_apart}
use Rattle.share_moments.proofs.law.deal_law.Goals as goal

pub returns : goal.returns
returns c = λ s uses pure pieces waiting is reach deal of asks. dealt_apart s uses pure pieces waiting is reach deal of asks
