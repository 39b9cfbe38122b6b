use Rattle.std.proofs.Common.{◌≡◌, ◌-◌, length}
use Rattle.mo_lexer.specs.declared.token.Sym.TheVariants as s
use Rattle.mo_parser.specs.grammar.Kinds.{is_symbol}
use Rattle.mo_parser.specs.reading.Comments.{more_text}
use Rattle.mo_parser.specs.reading.Outcomes.{turns}
use Rattle.mo_parser.proofs.grammar.comments.more_texts.Given as goal

abbrev pub invariant-loop-turn : goal.invariant-loop-turn
invariant-loop-turn l = turns (is_symbol s.Plus) (more_text) (length l.initial.tokens) tt l.initial.tokens ≡ turns (is_symbol s.Plus) (more_text) (l._turn-end - l._turn) tt l.tokens
