use Rattle.whole_runs.proofs.Whole.{whole}
use Rattle.whole_runs.proofs.law.whole_law.Goals as goal

pub returns : goal.returns
returns c = whole
