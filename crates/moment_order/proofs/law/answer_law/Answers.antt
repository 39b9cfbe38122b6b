use Rattle.moment_order.proofs.Same.{answered_order}
use Rattle.moment_order.proofs.law.answer_law.Goals as goal

pub returns : goal.returns
returns c = answered_order
