use Rattle.clock_sides.proofs.Whole.{runnable}
use Rattle.clock_sides.proofs.law.runnable_law.Goals as goal

pub returns : goal.returns
returns c = λ model clocking table instants is answered. runnable model clocking table instants is answered
