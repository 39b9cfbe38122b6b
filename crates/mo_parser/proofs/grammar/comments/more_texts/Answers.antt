use Rattle.std.proofs.Common.{inl, inr, rules}
use Rattle.mo_lexer.specs.declared.token.Sym.TheVariants as s
use Rattle.mo_parser.specs.grammar.Kinds.{is_symbol}
use Rattle.mo_parser.specs.reading.Comments.{more_text}
use Rattle.mo_parser.proofs.Turns.{ended, failed, turned}
use Rattle.mo_parser.proofs.grammar.comments.more_texts.Goals as goal

pub loop-turn-preserved : goal.loop-turn-preserved
loop-turn-preserved c = turned (is_symbol s.Plus) (more_text) c.count-turn-end.result c.loop-turn._turn _ _ _ _ c.loop-turn-test.true c.loop-turn.invariant (search rules) (search rules)

pub returns-in_err-more_text : goal.returns-in_err-more_text
returns-in_err-more_text c = failed (is_symbol s.Plus) (more_text) c.count-turn-end.result c.loop-turn._turn _ _ _ _ c.in_err-more_text.field-0.0 c.loop-turn-test.true c.loop-turn.invariant (search rules) c.in_err-more_text.ensures (search rules)

pub returns-after-loop-turn : goal.returns-after-loop-turn
returns-after-loop-turn c = ended (is_symbol s.Plus) (more_text) c.count-turn-end.result c.loop-turn._turn _ _ c.loop-turn.invariant (inl (search rules))

pub returns-then-not-is_symbol : goal.returns-then-not-is_symbol
returns-then-not-is_symbol c = ended (is_symbol s.Plus) (more_text) c.count-turn-end.result c.loop-turn._turn _ _ c.loop-turn.invariant (inr (search rules))
