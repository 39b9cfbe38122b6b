use Rattle.eq_order.proofs.OneAnswer as one
use Rattle.eq_order.proofs.law.answer_law.Goals as goal

pub returns : goal.returns
returns c = one.answer_law
