use Rattle.undone_side.proofs.Kept.{side_known}
use Rattle.undone_side.proofs.law.known_law.Goals as goal

pub returns : goal.returns
returns c = side_known
