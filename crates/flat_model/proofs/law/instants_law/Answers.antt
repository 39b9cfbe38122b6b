use Rattle.flat_model.proofs.OneAnswer.{instants_once}
use Rattle.flat_model.proofs.law.instants_law.Goals as goal

pub returns : goal.returns
returns c = instants_once
