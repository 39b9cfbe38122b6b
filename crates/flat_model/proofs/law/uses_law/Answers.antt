use Rattle.flat_model.proofs.OneAnswer.{uses_once}
use Rattle.flat_model.proofs.law.uses_law.Goals as goal

pub returns : goal.returns
returns c = uses_once
