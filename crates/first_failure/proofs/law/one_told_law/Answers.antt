use Rattle.first_failure.proofs.Single.{one_told}
use Rattle.first_failure.proofs.law.one_told_law.Goals as goal

pub returns : goal.returns
returns c = λ s uses are S m entries row one two first second. one_told s uses are S m entries row one two first second
