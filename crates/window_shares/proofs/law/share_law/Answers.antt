use Rattle.window_shares.proofs.Coursed.{share_window}
use Rattle.window_shares.proofs.law.share_law.Goals as goal

pub returns : goal.returns
returns c = λ s uses stages A n model old course count shares are model_is valued has ends. share_window s uses stages A n model old course count shares are model_is valued has ends
