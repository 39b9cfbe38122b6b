use Rattle.first_failure.proofs.Readying.{counts_ready, out_resting, out_unready}
use Rattle.first_failure.proofs.law.ready_law.Goals as goal

pub returns : goal.returns
returns c = λ s uses runs are entry side class used is S m row. (
  λ meets typed ticks all. counts_ready s uses runs are entry side class used is S m row ticks all meets typed,
  out_resting s uses runs are entry side class used is S m row,
  out_unready s uses runs are entry side class used is S m row,
)
