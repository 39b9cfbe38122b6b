use Rattle.connection_counts.proofs.Counted.{count_law}
use Rattle.connection_counts.proofs.law.count_law.Goals as goal

pub returns : goal.returns
returns c = count_law
