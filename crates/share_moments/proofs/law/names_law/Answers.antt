use Rattle.share_moments.proofs.Sharing.{beside, is_share}
use Rattle.share_moments.proofs.law.names_law.Goals as goal

pub returns : goal.returns
returns c = λ s uses pure shares are. (beside s uses pure shares are, is_share s uses pure shares are)
