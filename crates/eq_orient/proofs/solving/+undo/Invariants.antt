use Rattle.flat_model.proofs.Nodes.{nodes}
use Rattle.eq_orient.proofs.solving.+undo.Given as goal

abbrev pub decreases-undo : goal.decreases-undo
decreases-undo g l = nodes l.expr.now
