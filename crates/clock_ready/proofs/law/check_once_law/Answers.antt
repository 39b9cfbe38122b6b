use Rattle.clock_ready.proofs.Checked.{check_once}
use Rattle.clock_ready.proofs.law.check_once_law.Goals as goal

pub returns : goal.returns
returns c = λ model terms classes grids t k fit solution one other a b n m. check_once model terms classes grids fit solution one other a b n m
