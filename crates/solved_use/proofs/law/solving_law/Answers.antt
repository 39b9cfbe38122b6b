use Rattle.solved_use.proofs.Solving.{solves_use}
use Rattle.solved_use.proofs.law.solving_law.Goals as goal

pub returns : goal.returns
returns c = λ s uses runs are entry used waits S m row meets typed equation name can views shows. solves_use s uses runs are entry used waits S m row meets typed equation name can views shows
