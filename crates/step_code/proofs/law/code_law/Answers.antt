use Rattle.step_code.proofs.Compiled.{code_gives}
use Rattle.step_code.proofs.law.code_law.Goals as goal

pub returns : goal.returns
returns c = code_gives
