use Rattle.moment_join.proofs.PureValues.{sites_hold}
use Rattle.moment_join.proofs.law.holds_law.Goals as goal

pub returns : goal.returns
returns c = λ s uses pure rest is clockless reach S m at here inputs base are taken none fine. sites_hold s uses pure rest is clockless S m at here inputs base are taken none reach fine
