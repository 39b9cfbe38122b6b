use Rattle.std.proofs.Common.{◌≡◌, ◌-◌, length}
use Rattle.mo_lexer.specs.declared.token.Sym.TheVariants as s
use Rattle.mo_parser.specs.grammar.Kinds.{is_symbol}
use Rattle.mo_parser.specs.reading.Elements.{further_component}
use Rattle.mo_parser.specs.reading.Outcomes.{turns}
use Rattle.mo_parser.proofs.grammar.reader.Reader.more_components.Given as goal

abbrev pub invariant-loop-turn : goal.invariant-loop-turn
invariant-loop-turn l = turns (is_symbol s.Comma) (further_component l.self.depth l.declared) (length l.initial.tokens) l.initial.all l.initial.tokens ≡ turns (is_symbol s.Comma) (further_component l.self.depth l.declared) (l._turn-end - l._turn) l.all l.tokens
