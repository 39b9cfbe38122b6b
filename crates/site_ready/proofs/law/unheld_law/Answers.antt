use Rattle.site_ready.proofs.Deciding.{there_is}
use Rattle.site_ready.proofs.Unheld.{unheld}
use Rattle.site_ready.proofs.law.unheld_law.Goals as goal

pub returns : goal.returns
returns c = λ model clocking table instants is answered. (there_is model answered.classes, λ group tells. unheld model clocking table instants is answered group tells)
