use Rattle.partition_step.proofs.Resting.{others}
use Rattle.partition_step.proofs.law.others_law.Goals as goal

pub returns : goal.returns
returns c = others
