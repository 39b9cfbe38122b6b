use Rattle.group_shares.proofs.Having.{so_many, has}
use Rattle.group_shares.proofs.law.given_law.Goals as goal

pub returns : goal.returns
returns c = λ share_of number count stages uses groups. (so_many share_of number count stages uses groups, has share_of number count stages uses groups)
