use Rattle.std.proofs.Common.{inl, inr, rules}
use Rattle.mo_lexer.specs.declared.token.Word.TheVariants as w
use Rattle.mo_parser.specs.grammar.Kinds.{is_word}
use Rattle.mo_parser.specs.reading.Expressions.{expr, other_branch}
use Rattle.mo_parser.proofs.Turns.{ended, failed, turned}
use Rattle.mo_parser.proofs.grammar.expressions.Grammar.other_branches.Goals.{else-loop-turn-test, then-loop-turn-test+then-not-is_word}
use Rattle.mo_parser.proofs.grammar.expressions.Grammar.other_branches.Goals as goal

pub loop-turn-preserved : goal.loop-turn-preserved
loop-turn-preserved g c = turned (is_word w.KwElseif) (other_branch (expr c.args.self.now.depth)) c.count-turn-end.result c.loop-turn._turn _ _ _ _ c.loop-turn-test.true c.loop-turn.invariant (search rules) (search rules)

pub returns-in_err-all : goal.returns-in_err-all
returns-in_err-all g c = failed (is_word w.KwElseif) (other_branch (expr c.args.self.now.depth)) c.count-turn-end.result c.loop-turn._turn _ _ _ _ c.in_err-all.field-0.0 c.loop-turn-test.true c.loop-turn.invariant (search rules) c.in_err-all.ensures (search rules)

pub returns : goal.returns
returns g c = ended (is_word w.KwElseif) (other_branch (expr c.args.self.now.depth)) c.count-turn-end.result c.loop-turn._turn _ _ c.loop-turn.invariant (elim c.loop-turn-test.branch [ else-loop-turn-test w ↦ inl (search rules) | then-loop-turn-test+then-not-is_word w ↦ inr (search rules) ])
