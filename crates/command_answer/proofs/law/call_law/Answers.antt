use Rattle.command_answer.proofs.Calling.{call_of}
use Rattle.command_answer.proofs.law.call_law.Goals as goal

pub returns : goal.returns
returns c = call_of
