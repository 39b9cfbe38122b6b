use Rattle.std.proofs.Common.{◌≡◌, drop}
use Rattle.clock_terms.specs.Mentions.{cuts_of_exprs}
use Rattle.clock_terms.specs.Gathered.{with_cuts}
use Rattle.clock_terms.proofs.cut.+cuts.Given as goal

abbrev pub invariant-parts_of_all-loop-expr : goal.invariant-parts_of_all-loop-expr
invariant-parts_of_all-loop-expr l =
    with_cuts l.fn.names l.fn.equation l.terms (cuts_of_exprs (drop l.expr-index l.fn.exprs)) ≡ with_cuts l.fn.names l.fn.equation l.fn.terms (cuts_of_exprs l.fn.exprs)
