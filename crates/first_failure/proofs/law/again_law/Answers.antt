use Rattle.first_failure.proofs.Again.{set_again, clock_again}
use Rattle.first_failure.proofs.law.again_law.Goals as goal

pub returns : goal.returns
returns c = λ s uses before after blocks ordered p common t stretches are S m row begins clear ticking i old new failing set told runs. (
  set_again s uses p common t S m ticking before after blocks ordered row clear stretches are begins i old new failing set told runs,
  clock_again s uses p common t S m ticking before after blocks ordered row clear stretches are begins i old new failing set told runs,
)
