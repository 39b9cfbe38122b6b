use Rattle.sub_clock_solve.proofs.Ending.{conflict_none}
use Rattle.sub_clock_solve.proofs.law.conflict_law.Goals as goal

pub returns : goal.returns
returns c = λ said held e proper g fails. conflict_none said held e proper g fails
