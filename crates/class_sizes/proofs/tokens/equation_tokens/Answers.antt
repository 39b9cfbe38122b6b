use Rattle.std.proofs.Common.{◌∙◌, ap, sym, min}
use Rattle.class_sizes.specs.Tokens.{tokens_by}
use Rattle.class_sizes.proofs.Shapes.{out-Equal}
use Rattle.class_sizes.proofs.tokens.equation_tokens.Goals as goal

pub returns-in-Equal : goal.returns-in-Equal
returns-in-Equal c =
    c.sides_tokens.ensures ∙ ap (λ layer. min (tokens_by c.args.starts.now.tokens.now layer) c.args.most) (sym (out-Equal c.args.equation.now c.in-Equal.left c.in-Equal.right c.in-Equal.is))
