use Rattle.std.proofs.Common.{arith, ap, ◌∙◌}
use Rattle.flat_model.proofs.Nodes.{nodes, nodes-Sample}
use Rattle.step_code.proofs.Pieces.{leaf-Sample}
use Rattle.keyed_code.proofs.emitting.+leaf.Goals as goal

pub leaf-requires : goal.leaf-requires
leaf-requires t c =
    let size = ap nodes c.in-Sample.is ∙ nodes-Sample c.in-Sample.part c.in-Sample.field-1 in
    let same = ap nodes c.get.ensures in
    (omega (arith, c.decreases, size, same), tt)

pub returns-in-Sample : goal.returns-in-Sample
returns-in-Sample t c = rw (c.in-Sample.is, leaf-Sample) (rw (c.from_left.ensures, c.get.ensures) at c.leaf.ensures)
