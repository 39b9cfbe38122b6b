use Rattle.first_failure.proofs.Alone.{alone}
use Rattle.first_failure.proofs.law.lone_law.Goals as goal

pub returns : goal.returns
returns c = λ s uses before after entry ordered class at t line stretch is S m row old new stop ready runs.
    alone s uses before after entry ordered class at t line stretch is S m row old new stop ready runs
