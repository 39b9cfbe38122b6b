use Rattle.moment_theory.proofs.Renamed.{value_renamed}
use Rattle.moment_theory.proofs.law.renamed_law.Goals as goal

pub returns : goal.returns
returns c = λ place e views. value_renamed place e views
