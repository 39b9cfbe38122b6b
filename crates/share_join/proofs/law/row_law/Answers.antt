use Rattle.share_join.proofs.Apart.{joins_shares}
use Rattle.share_join.proofs.law.row_law.Goals as goal

pub returns : goal.returns
returns c = λ s uses pure shares is base lasts. joins_shares s uses pure shares is base lasts
