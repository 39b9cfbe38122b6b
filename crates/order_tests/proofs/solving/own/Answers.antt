use Rattle.order_tests.proofs.Tame.{tame_own}
use Rattle.order_tests.proofs.solving.own.Goals as goal

pub returns : goal.returns
returns c = tame_own
