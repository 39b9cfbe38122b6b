use Rattle.std.proofs.Common.{arith}
use Rattle.class_sizes.specs.Equations.{inside_equations}
use Rattle.class_sizes.proofs.Counts.{one_added, all_added}
use Rattle.class_sizes.proofs.equations.clause_count.Goals as goal

pub loop-equation-preserved : goal.loop-equation-preserved
loop-equation-preserved c =
    one_added inside_equations c.args.inside.now c.loop-equation.equation-index c.equation-item.result (omega arith) c.equation-item.is c.args.most c.loop-equation.count
    c.inside_count.result c.added-count.result c.loop-equation.invariant c.inside_count.ensures c.added-count.ensures

pub returns : goal.returns
returns c = all_added inside_equations c.args.inside.now c.loop-equation.equation-index (omega arith) c.args.most c.loop-equation.count c.loop-equation.invariant
