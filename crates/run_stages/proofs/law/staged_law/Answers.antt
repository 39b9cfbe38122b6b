use Rattle.run_stages.proofs.Staging.{staged}
use Rattle.run_stages.proofs.law.staged_law.Goals as goal

pub returns : goal.returns
returns c = λ s order stages group count runs answers unheld rest below are. staged s order stages group count runs answers unheld rest below are
