use Rattle.moment_theory.proofs.Answered.{one_run}
use Rattle.moment_theory.proofs.law.one_run_law.Goals as goal

pub returns : goal.returns
returns c = λ s uses order is out err text line one two. one_run s uses order is out err text line one two
