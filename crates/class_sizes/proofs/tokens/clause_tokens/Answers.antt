use Rattle.std.proofs.Common.{arith}
use Rattle.class_sizes.specs.Tokens.{inside_tokens}
use Rattle.class_sizes.proofs.Counts.{one_capped, all_added}
use Rattle.class_sizes.proofs.tokens.clause_tokens.Goals as goal

pub loop-equation-preserved : goal.loop-equation-preserved
loop-equation-preserved c =
    one_capped (inside_tokens c.args.starts.now.tokens.now) c.args.inside.now c.loop-equation.equation-index c.equation-item.result (omega arith) c.equation-item.is c.args.most c.loop-equation.count
    c.inside_tokens.result c.added-count.result c.loop-equation.invariant c.inside_tokens.ensures c.added-count.ensures

pub returns : goal.returns
returns c = all_added (inside_tokens c.args.starts.now.tokens.now) c.args.inside.now c.loop-equation.equation-index (omega arith) c.args.most c.loop-equation.count c.loop-equation.invariant
