use Rattle.order_tests.proofs.Tame.{tame_const}
use Rattle.order_tests.proofs.solving.number.Goals as goal

pub returns : goal.returns
returns c = tame_const _
