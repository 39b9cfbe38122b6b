use Rattle.moment_moves.proofs.Ending.{moment_ends}
use Rattle.moment_moves.proofs.law.moment_law.Goals as goal

pub returns : goal.returns
returns c = λ s uses pure pieces waiting A n at base last site told is plan plan_is. moment_ends s uses pure pieces waiting A n at base last site told is plan plan_is
