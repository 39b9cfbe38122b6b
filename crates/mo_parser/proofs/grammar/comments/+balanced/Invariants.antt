use Rattle.mo_parser.proofs.grammar.comments.+balanced.Given as goal

abbrev pub decreases-balanced : goal.decreases-balanced
decreases-balanced l = l.depth
