use Rattle.flat_model.proofs.Nodes.{nodes}
use Rattle.eq_orient.proofs.solving.+check_beside.Given as goal

abbrev pub decreases-check_beside : goal.decreases-check_beside
decreases-check_beside g l = nodes l.expr.now
