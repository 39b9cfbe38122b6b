use Rattle.partition_step.proofs.Resting.{rests}
use Rattle.partition_step.proofs.law.rests_law.Goals as goal

pub returns : goal.returns
returns c = rests
