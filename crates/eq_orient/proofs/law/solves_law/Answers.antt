use Rattle.eq_orient.proofs.OneAnswer.{one_answer}
use Rattle.eq_orient.proofs.law.solves_law.Goals as goal

pub returns : goal.returns
returns c = one_answer
