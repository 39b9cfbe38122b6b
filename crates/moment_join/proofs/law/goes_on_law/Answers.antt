use Rattle.moment_join.proofs.GoesOn.{goes_on}
use Rattle.moment_join.proofs.law.goes_on_law.Goals as goal

pub returns : goal.returns
returns c = λ s uses order is S m known at here inputs last are taken sites none. goes_on s uses order is S m inputs last are taken known at here sites none
