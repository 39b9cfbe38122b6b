use Rattle.std.proofs.Common.{◌≡◌, ◌-◌, length}
use Rattle.mo_parser.specs.reading.Starts.{begins_section}
use Rattle.mo_parser.specs.reading.Classes.{section}
use Rattle.mo_parser.specs.reading.Outcomes.{turns}
use Rattle.mo_parser.proofs.grammar.reader.Reader.sections.Given as goal

abbrev pub invariant-loop-turn : goal.invariant-loop-turn
invariant-loop-turn l = turns (begins_section) (section l.self.depth) (length l.initial.tokens) l.initial.body l.initial.tokens ≡ turns (begins_section) (section l.self.depth) (l._turn-end - l._turn) l.body l.tokens
