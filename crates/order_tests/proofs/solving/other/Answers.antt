use Rattle.std.proofs.Common.{refl}
use Rattle.order_tests.proofs.Tame.{tame_other}
use Rattle.order_tests.proofs.solving.other.Goals as goal

pub returns : goal.returns
returns c = tame_other 1 refl
