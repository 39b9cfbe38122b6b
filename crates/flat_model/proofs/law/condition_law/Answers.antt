use Rattle.flat_model.proofs.Conditions.{site_same_over}
use Rattle.flat_model.proofs.law.condition_law.Goals as goal

pub returns : goal.returns
returns c = λ s S site m now condition found is same. site_same_over s S site m now condition found is.direct same
