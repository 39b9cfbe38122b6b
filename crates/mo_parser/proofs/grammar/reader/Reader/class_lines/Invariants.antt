use Rattle.std.proofs.Common.{◌≡◌, ◌-◌, length}
use Rattle.mo_parser.specs.reading.Starts.{begins_class}
use Rattle.mo_parser.specs.reading.Classes.{class_line}
use Rattle.mo_parser.specs.reading.Outcomes.{turns}
use Rattle.mo_parser.proofs.grammar.reader.Reader.class_lines.Given as goal

abbrev pub invariant-loop-turn : goal.invariant-loop-turn
invariant-loop-turn l = turns (begins_class) (class_line l.text l.self.depth) (length l.initial.tokens) l.initial.all l.initial.tokens ≡ turns (begins_class) (class_line l.text l.self.depth) (l._turn-end - l._turn) l.all l.tokens
