use Rattle.window_shares.specs.Running.{IsBehind}
use Rattle.window_shares.proofs.Runs.{runs_on}
use Rattle.window_shares.proofs.law.runs_law.Goals as goal

pub returns : goal.returns
returns c = λ s uses stages A n old course count runs done window alone is.
    runs_on s uses stages A n old course count runs done window alone is (IsBehind uses stages runs course) (λ S behind. behind)
