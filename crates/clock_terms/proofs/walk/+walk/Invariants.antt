use Rattle.std.proofs.Common.{◌≡◌, drop}
use Rattle.clock_terms.specs.Mentions.{mentions_of_exprs}
use Rattle.clock_terms.specs.Gathered.{with_mentions}
use Rattle.clock_terms.proofs.walk.+walk.Given as goal

abbrev pub invariant-walk_all-loop-part : goal.invariant-walk_all-loop-part
invariant-walk_all-loop-part l =
    with_mentions l.fn.names l.fn.at l.terms (mentions_of_exprs (drop l.part-index l.fn.parts)) ≡ with_mentions l.fn.names l.fn.at l.fn.terms (mentions_of_exprs l.fn.parts)
