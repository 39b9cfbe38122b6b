use Rattle.std.proofs.Common.{sym, subst}
use Rattle.order_tests.specs.Tame.{IsTame}
use Rattle.order_tests.proofs.Tame.{tame_sum}
use Rattle.order_tests.proofs.solving.chain.Goals as goal

pub returns : goal.returns
returns g c = subst IsTame (sym c.joined.ensures) (tame_sum c.args.op c.requires.sum c.args.a c.args.b c.requires.first c.requires.second)
