use Rattle.typed_model.proofs.Models.{typed_is_model}
use Rattle.typed_model.proofs.law.model_law.Goals as goal

pub returns : goal.returns
returns c = λ raw flat is typed. typed_is_model raw flat is typed
