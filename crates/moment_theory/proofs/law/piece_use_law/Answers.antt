use Rattle.moment_theory.proofs.Turns.{in_its_piece}
use Rattle.moment_theory.proofs.law.piece_use_law.Goals as goal

pub returns : goal.returns
returns c = λ s uses first rest pieces is apart S m inputs base are taken owns alone row together beside i piece found entry of_piece. in_its_piece s uses first rest pieces is apart S m inputs base are taken owns alone row together beside i piece found entry of_piece
