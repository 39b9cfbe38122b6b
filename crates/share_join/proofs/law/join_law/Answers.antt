use Rattle.share_join.proofs.Telling.{stages}
use Rattle.share_join.proofs.law.join_law.Goals as goal

pub returns : goal.returns
returns c = λ s uses pure shares U m inputs base lasts last first tolds run. stages s uses pure shares U m inputs base lasts last first tolds run
