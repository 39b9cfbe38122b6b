use Rattle.undone_side.proofs.Values.{solved}
use Rattle.undone_side.proofs.law.undone_law.Goals as goal

pub returns : goal.returns
returns c = solved
