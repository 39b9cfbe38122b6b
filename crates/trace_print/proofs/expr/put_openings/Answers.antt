use Rattle.std.proofs.Common.{ap, ◌∙◌, ◌++◌, codes, append_assoc}
use Rattle.trace_print.specs.private.Openings.{openings}
use Rattle.trace_print.proofs.Joins.{openings_end}
use Rattle.trace_print.proofs.expr.put_openings.Goals as goal

pub loop-turn-preserved : goal.loop-turn-preserved
loop-turn-preserved c =
    let out = c.args.out.now.items in
    let n = c.loop-turn._turn in
    c.in_ok-put.ensures ∙ ap (λ t. t ++ codes "(") c.loop-turn.invariant ∙ append_assoc out (openings n) (codes "(") ∙ ap (λ t. out ++ t) (openings_end n)
