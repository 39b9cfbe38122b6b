use Rattle.std.proofs.Common.{arith}
use Rattle.class_sizes.specs.Tokens.{tokens_at}
use Rattle.class_sizes.proofs.Counts.{one_capped, all_added}
use Rattle.class_sizes.proofs.tokens.tokens_of.Goals as goal

pub loop-equation-preserved : goal.loop-equation-preserved
loop-equation-preserved c =
    one_capped (tokens_at c.args.starts.now.tokens.now) c.args.equations.now c.loop-equation.equation-index c.equation-item.result (omega arith) c.equation-item.is c.args.most c.loop-equation.count
    c.equation_tokens.result c.added-count.result c.loop-equation.invariant c.equation_tokens.ensures c.added-count.ensures

pub returns : goal.returns
returns c = all_added (tokens_at c.args.starts.now.tokens.now) c.args.equations.now c.loop-equation.equation-index (omega arith) c.args.most c.loop-equation.count c.loop-equation.invariant
