use Rattle.moment_moves.proofs.Keeping.{kept_next}
use Rattle.moment_moves.proofs.law.kept_law.Goals as goal

pub returns : goal.returns
returns c = λ s A n last x. kept_next s A n last x
