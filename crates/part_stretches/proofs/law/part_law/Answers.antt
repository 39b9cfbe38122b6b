use Rattle.part_stretches.proofs.Taking.{takes}
use Rattle.part_stretches.proofs.law.part_law.Goals as goal

pub returns : goal.returns
returns c = λ s uses before after blocks ordered p common t stretches are S m row begins clear ticking i old new result set told runs.
    takes s uses p common t S m ticking before after blocks ordered stretches are row begins clear i old new result set told runs
