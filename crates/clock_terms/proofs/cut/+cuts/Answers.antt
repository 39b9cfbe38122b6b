use Rattle.std.proofs.Common.{rules, ◌≡◌, ◌<◌, length, get_or, ◌∙◌}
use Rattle.clock_terms.specs.Mentions.{seen}
use Rattle.clock_terms.specs.Gathered.{with_cuts}
use Rattle.clock_terms.proofs.Cutting.{with_expr}
use Rattle.clock_terms.proofs.cut.+cuts.Goals as goal

pub parts_of_all-loop-expr-preserved : goal.parts_of_all-loop-expr-preserved
parts_of_all-loop-expr-preserved t c =
    let is : c.expr-item.result ≡ get_or c.args.exprs.now c.loop-expr.expr-index c.expr-item.result = search rules in
    let within : c.loop-expr.expr-index < length c.args.exprs.now = search rules in
    let added : c.parts.new.terms ≡ with_cuts c.args.names.now c.args.equation c.loop-expr.terms (seen c.expr-item.result).cuts = search rules in
    with_expr c.args.names.now c.args.equation c.loop-expr.terms c.parts.new.terms c.args.exprs.now c.loop-expr.expr-index c.expr-item.result within is added ∙ c.loop-expr.invariant
