use Rattle.mo_parser.proofs.grammar.modifications.+args.Given as goal

abbrev pub decreases-args : goal.decreases-args
decreases-args l = l.depth
