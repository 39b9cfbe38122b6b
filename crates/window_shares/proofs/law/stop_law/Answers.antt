use Rattle.window_shares.proofs.Stops.{closes_at}
use Rattle.window_shares.proofs.law.stop_law.Goals as goal

pub returns : goal.returns
returns c = λ s uses moments A n runs have. closes_at s uses moments A n runs have
