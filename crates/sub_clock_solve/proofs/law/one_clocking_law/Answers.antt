use Rattle.clock_spread.proofs.Only.{clocking_gives}
use Rattle.sub_clock_solve.proofs.law.one_clocking_law.Goals as goal

pub returns : goal.returns
returns c = λ said held proper h class clock gets. clocking_gives said held proper h class clock gets
