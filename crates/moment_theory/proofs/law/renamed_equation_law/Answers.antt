use Rattle.moment_theory.proofs.Renamed.{one_value_renamed}
use Rattle.moment_theory.proofs.RenamedWays.{solvable_renamed, parts_renamed}
use Rattle.moment_theory.proofs.law.renamed_equation_law.Goals as goal

pub returns : goal.returns
returns c = λ place x equation own. (one_value_renamed place equation, solvable_renamed place x own equation, parts_renamed place x own equation)
