use Rattle.std.proofs.Common.{arith}
use Rattle.class_sizes.specs.Equations.{equations_at}
use Rattle.class_sizes.proofs.Counts.{one_capped, all_added}
use Rattle.class_sizes.proofs.equations.count_of.Goals as goal

pub loop-equation-preserved : goal.loop-equation-preserved
loop-equation-preserved c =
    one_capped equations_at c.args.equations.now c.loop-equation.equation-index c.equation-item.result (omega arith) c.equation-item.is c.args.most c.loop-equation.count
    c.equation_count.result c.added-count.result c.loop-equation.invariant c.equation_count.ensures c.added-count.ensures

pub returns : goal.returns
returns c = all_added equations_at c.args.equations.now c.loop-equation.equation-index (omega arith) c.args.most c.loop-equation.count c.loop-equation.invariant
