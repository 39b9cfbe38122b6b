use Rattle.side_theory.proofs.SetCells.{set_on, clock_on}
use Rattle.side_theory.proofs.law.set_on_law.Goals as goal

pub returns : goal.returns
returns c = λ s uses before entries after ordered class ls of at t apart celled S m row begins old new set kept. (
  λ all. set_on s uses before entries after ordered class ls of at t apart celled S m row begins old new set kept all,
  λ other there none clock. clock_on s uses before entries after ordered class ls of at t apart celled S m row begins old new set kept other there none clock,
)
