use Rattle.std.proofs.Common.{◌≡◌, ◌-◌, length}
use Rattle.mo_lexer.specs.declared.token.Sym.TheVariants as s
use Rattle.mo_parser.specs.grammar.Kinds.{is_symbol}
use Rattle.mo_parser.specs.reading.Expressions.{expr, further}
use Rattle.mo_parser.specs.reading.Outcomes.{turns}
use Rattle.mo_parser.proofs.grammar.expressions.Grammar.all_further.Given as goal

abbrev pub invariant-loop-turn : goal.invariant-loop-turn
invariant-loop-turn g l = turns (is_symbol s.Comma) (further (expr l.self.depth)) (length l.initial.tokens) l.initial.all l.initial.tokens ≡ turns (is_symbol s.Comma) (further (expr l.self.depth)) (l._turn-end - l._turn) l.all l.tokens
