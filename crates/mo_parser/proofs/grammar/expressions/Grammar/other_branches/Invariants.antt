use Rattle.std.proofs.Common.{◌≡◌, ◌-◌, length}
use Rattle.mo_lexer.specs.declared.token.Word.TheVariants as w
use Rattle.mo_parser.specs.grammar.Kinds.{is_word}
use Rattle.mo_parser.specs.reading.Expressions.{expr, other_branch}
use Rattle.mo_parser.specs.reading.Outcomes.{turns}
use Rattle.mo_parser.proofs.grammar.expressions.Grammar.other_branches.Given as goal

abbrev pub invariant-loop-turn : goal.invariant-loop-turn
invariant-loop-turn g l = turns (is_word w.KwElseif) (other_branch (expr l.self.depth)) (length l.initial.tokens) l.initial.all l.initial.tokens ≡ turns (is_word w.KwElseif) (other_branch (expr l.self.depth)) (l._turn-end - l._turn) l.all l.tokens
