use Rattle.step_code.proofs.Sequence.{lines_run}
use Rattle.step_code.proofs.law.lines_law.Goals as goal

pub returns : goal.returns
returns c = lines_run
