use Rattle.command_words.proofs.OneChoice.{one_answer}
use Rattle.command_words.proofs.reading.one_answer.Goals as goal

pub returns : goal.returns
returns c = one_answer
