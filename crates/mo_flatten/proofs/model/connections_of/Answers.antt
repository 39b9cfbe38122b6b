use Rattle.std.proofs.Common.{length, arith}
use Rattle.mo_flatten.proofs.Modelled.{few_numbers}
use Rattle.mo_flatten.proofs.model.connections_of.Goals as goal

pub invariant_of-joiner : goal.invariant_of-joiner
invariant_of-joiner c = record { few = omega (arith, c.requires.few); below = few_numbers c.args.names.now c.args.table.now c.requires.table }
