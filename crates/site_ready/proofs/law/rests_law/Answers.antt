use Rattle.site_ready.proofs.Unheld.{rest}
use Rattle.site_ready.proofs.law.rests_law.Goals as goal

pub returns : goal.returns
returns c = λ model clocking table instants is answered group tells. rest model clocking table instants is answered group tells
