use Rattle.group_shares.proofs.Giving.{may_run}
use Rattle.group_shares.proofs.law.shares_law.Goals as goal

pub returns : goal.returns
returns c = λ s order stages group count runs answers unheld rest below are groups grouped share_of number given. may_run s order stages group count runs answers unheld rest below are groups grouped share_of number given
