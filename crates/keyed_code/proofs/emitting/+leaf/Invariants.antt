use Rattle.flat_model.proofs.Nodes.{nodes}
use Rattle.keyed_code.proofs.emitting.+leaf.Given as goal

abbrev pub decreases-leaf : goal.decreases-leaf
decreases-leaf l = nodes l.expr.now
