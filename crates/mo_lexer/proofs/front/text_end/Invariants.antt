use Rattle.mo_lexer.proofs.Quotes.{InText}
use Rattle.mo_lexer.proofs.front.text_end.Given as goal

abbrev pub invariant-loop-at : goal.invariant-loop-at
invariant-loop-at l = InText l.taken l.inside l.at
