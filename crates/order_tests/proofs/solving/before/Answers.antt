use Rattle.order_tests.proofs.Tame.{tame_previous}
use Rattle.order_tests.proofs.solving.before.Goals as goal

pub returns : goal.returns
returns c = tame_previous 0
