use Rattle.flat_model.proofs.Ticks.{is_tick_law}
use Rattle.flat_model.proofs.law.tick_law.Goals as goal

pub returns : goal.returns
returns c = is_tick_law
