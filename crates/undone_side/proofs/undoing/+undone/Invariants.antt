use Rattle.flat_model.proofs.Nodes.{nodes}
use Rattle.undone_side.proofs.undoing.+undone.Given as goal

abbrev pub decreases-undone : goal.decreases-undone
decreases-undone l = nodes l.expr.now
