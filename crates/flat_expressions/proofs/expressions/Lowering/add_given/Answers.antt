use Rattle.std.proofs.Common.{◌∙◌, ap, ◌++◌, ◌∷◌, []}
use Rattle.flat_expressions.proofs.expressions.Lowering.add_given.Goals as goal

pub returns : goal.returns
returns c =
    let right = rw c.front.ensures at c.expr_lowered.ensures in
    c.in_ok-push.ensures.ok ∙ ap (λ equation. c.args.equations.now ++ equation ∷ []) (c.in_ok-equation.ensures _ _ c.named.ensures right)
