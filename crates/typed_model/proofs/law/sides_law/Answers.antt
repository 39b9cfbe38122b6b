use Rattle.typed_model.proofs.Models.{sides_have_one_type}
use Rattle.typed_model.proofs.law.sides_law.Goals as goal

pub returns : goal.returns
returns c = λ raw flat is typed. sides_have_one_type raw flat is typed
