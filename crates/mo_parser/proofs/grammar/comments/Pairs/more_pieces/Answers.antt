use Rattle.std.proofs.Common.{inl, inr, rules}
use Rattle.mo_parser.specs.reading.Starts.{begins_balanced}
use Rattle.mo_parser.specs.reading.Comments.{balanced, piece}
use Rattle.mo_parser.proofs.Turns.{ended, failed, turned}
use Rattle.mo_parser.proofs.grammar.comments.Pairs.more_pieces.Goals as goal

pub loop-turn-preserved : goal.loop-turn-preserved
loop-turn-preserved g c = turned (begins_balanced) (piece (balanced c.args.self.now.depth)) c.count-turn-end.result c.loop-turn._turn _ _ _ _ c.loop-turn-test.true c.loop-turn.invariant (search rules) (search rules)

pub returns-in_err-piece : goal.returns-in_err-piece
returns-in_err-piece g c = failed (begins_balanced) (piece (balanced c.args.self.now.depth)) c.count-turn-end.result c.loop-turn._turn _ _ _ _ c.in_err-piece.field-0.0 c.loop-turn-test.true c.loop-turn.invariant (search rules) c.in_err-piece.ensures (search rules)

pub returns-after-loop-turn : goal.returns-after-loop-turn
returns-after-loop-turn g c = ended (begins_balanced) (piece (balanced c.args.self.now.depth)) c.count-turn-end.result c.loop-turn._turn _ _ c.loop-turn.invariant (inl (search rules))

pub returns-then-not-begins_balanced : goal.returns-then-not-begins_balanced
returns-then-not-begins_balanced g c = ended (begins_balanced) (piece (balanced c.args.self.now.depth)) c.count-turn-end.result c.loop-turn._turn _ _ c.loop-turn.invariant (inr (search rules))
