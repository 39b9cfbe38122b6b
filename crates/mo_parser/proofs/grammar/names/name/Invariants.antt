use Rattle.std.proofs.Common.{◌≡◌, ◌-◌, length}
use Rattle.mo_lexer.specs.declared.token.Sym.TheVariants as s
use Rattle.mo_parser.specs.grammar.Kinds.{is_symbol}
use Rattle.mo_parser.specs.reading.Outcomes.{turns}
use Rattle.mo_parser.specs.reading.Names.{dotted}
use Rattle.mo_parser.proofs.grammar.names.name.Given as goal

abbrev pub invariant-loop-turn : goal.invariant-loop-turn
invariant-loop-turn l = turns (is_symbol s.Dot) dotted (length l.initial.tokens) l.initial.found l.initial.tokens ≡ turns (is_symbol s.Dot) dotted (l._turn-end - l._turn) l.found l.tokens
