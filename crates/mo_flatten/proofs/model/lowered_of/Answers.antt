use Rattle.mo_flatten.proofs.Modelled.{numbers_fit}
use Rattle.mo_flatten.proofs.model.lowered_of.Goals as goal

pub invariant_of-lowering : goal.invariant_of-lowering
invariant_of-lowering c = record { few = numbers_fit c.args.names.now c.args.table.now c.requires.few c.requires.table }
