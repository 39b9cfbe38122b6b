use Rattle.share_join.proofs.Leading.{leads}
use Rattle.share_join.proofs.law.first_law.Goals as goal

pub returns : goal.returns
returns c = λ s uses pure shares is i share found. leads s uses pure shares is i share found
