use Rattle.flat_answer.proofs.OneAnswer.{one_answer}
use Rattle.flat_answer.proofs.law.flatten_law.Goals as goal

pub returns : goal.returns
returns c = one_answer
