use Rattle.std.proofs.Common.{◌≡◌, ◌-◌, length}
use Rattle.mo_parser.specs.reading.Starts.{begins_balanced}
use Rattle.mo_parser.specs.reading.Comments.{balanced, piece}
use Rattle.mo_parser.specs.reading.Outcomes.{turns}
use Rattle.mo_parser.proofs.grammar.comments.Pairs.more_pieces.Given as goal

abbrev pub invariant-loop-turn : goal.invariant-loop-turn
invariant-loop-turn g l = turns (begins_balanced) (piece (balanced l.self.depth)) (length l.initial.tokens) tt l.initial.tokens ≡ turns (begins_balanced) (piece (balanced l.self.depth)) (l._turn-end - l._turn) tt l.tokens
