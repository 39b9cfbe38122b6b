use Rattle.clock_ready.proofs.Own.{equation_own}
use Rattle.clock_ready.proofs.law.own_law.Goals as goal

pub returns : goal.returns
returns c = λ model terms classes clocking table instants model_is k apart is i equation e. equation_own model classes k apart terms clocking model_is is table instants i equation e
