use Rattle.partition_step.proofs.OneStep.{one_step}
use Rattle.partition_step.proofs.law.one_step_law.Goals as goal

pub returns : goal.returns
returns c = one_step
