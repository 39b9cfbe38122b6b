use Rattle.mo_parser.specs.reading.Expressions.{other_branch}
use Rattle.mo_parser.proofs.Turns.{then_reads}
use Rattle.mo_parser.proofs.grammar.expressions.Grammar.other_branch.Goals as goal

pub returns : goal.returns
unfolding other_branch
returns g c = then_reads _ _ _ _ _ _ c.in_ok-word.ensures c.branch-self.ensures
