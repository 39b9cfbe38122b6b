use Rattle.side_theory.proofs.Taking.{run_takes}
use Rattle.side_theory.proofs.law.run_law.Goals as goal

pub returns : goal.returns
returns c = λ s uses before entries after ordered class ls of at t stretch is apart celled booleans S m row begins clear old new result holds runs.
    run_takes s uses before entries after ordered class ls of at t S m row old new stretch is apart celled booleans begins clear result holds runs
