use Rattle.flat_types.proofs.OneAnswer.{one_answer}
use Rattle.flat_types.proofs.law.answer_law.Goals as goal

pub returns : goal.returns
returns c = one_answer
