use Rattle.step_code.proofs.Known.{typed_known}
use Rattle.step_code.proofs.law.known_law.Goals as goal

pub returns : goal.returns
returns c = typed_known
