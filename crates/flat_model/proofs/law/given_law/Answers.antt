use Rattle.flat_model.proofs.OneAnswer.{given_once}
use Rattle.flat_model.proofs.law.given_law.Goals as goal

pub returns : goal.returns
returns c = given_once
