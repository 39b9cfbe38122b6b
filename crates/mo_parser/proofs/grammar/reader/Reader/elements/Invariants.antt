use Rattle.std.proofs.Common.{◌≡◌, ◌-◌, length}
use Rattle.mo_parser.specs.reading.Starts.{begins_element}
use Rattle.mo_parser.specs.reading.Elements.{element}
use Rattle.mo_parser.specs.reading.Outcomes.{turns}
use Rattle.mo_parser.proofs.grammar.reader.Reader.elements.Given as goal

abbrev pub invariant-loop-turn : goal.invariant-loop-turn
invariant-loop-turn l = turns (begins_element) (element l.self.depth) (length l.initial.tokens) l.initial.all l.initial.tokens ≡ turns (begins_element) (element l.self.depth) (l._turn-end - l._turn) l.all l.tokens
