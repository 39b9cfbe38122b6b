use Rattle.side_theory.proofs.Keeping.{holds_row}
use Rattle.side_theory.proofs.law.set_law.Goals as goal

pub returns : goal.returns
returns c = λ s S m row class at t cells laid ticks set clock. holds_row s S m row at t cells class laid ticks set clock
