use Rattle.moment_theory.proofs.Pieces.{pieces_beside}
use Rattle.moment_theory.proofs.law.pieces_law.Goals as goal

pub returns : goal.returns
returns c = λ s uses first rest pieces is apart S m inputs base are taken owns alone. pieces_beside s uses first rest pieces is apart S m inputs base are taken owns alone
