use Rattle.command_answer.proofs.OneAnswer.{one_answer}
use Rattle.command_answer.proofs.law.one_answer_law.Goals as goal

pub returns : goal.returns
returns c = one_answer
