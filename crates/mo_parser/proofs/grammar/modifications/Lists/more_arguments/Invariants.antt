use Rattle.std.proofs.Common.{◌≡◌, ◌-◌, length}
use Rattle.mo_lexer.specs.declared.token.Sym.TheVariants as s
use Rattle.mo_parser.specs.grammar.Kinds.{is_symbol}
use Rattle.mo_parser.specs.reading.Expressions.{expr}
use Rattle.mo_parser.specs.reading.Modifications.{args, further_argument}
use Rattle.mo_parser.specs.reading.Outcomes.{turns}
use Rattle.mo_parser.proofs.grammar.modifications.Lists.more_arguments.Given as goal

abbrev pub invariant-loop-turn : goal.invariant-loop-turn
invariant-loop-turn g l = turns (is_symbol s.Comma) (further_argument (expr l.self.depth) (args l.self.depth)) (length l.initial.tokens) l.initial.all l.initial.tokens ≡ turns (is_symbol s.Comma) (further_argument (expr l.self.depth) (args l.self.depth)) (l._turn-end - l._turn) l.all l.tokens
