use Rattle.command_answer.proofs.Calling.{printed_is}
use Rattle.command_answer.proofs.law.printed_law.Goals as goal

pub returns : goal.returns
returns c = printed_is
