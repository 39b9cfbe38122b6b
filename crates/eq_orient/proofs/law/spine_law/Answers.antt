use Rattle.eq_orient.proofs.OneAnswer.{one_side}
use Rattle.eq_orient.proofs.law.spine_law.Goals as goal

pub returns : goal.returns
returns c = one_side
