use Rattle.std.proofs.Common.{◌≡◌, ◌-◌, length}
use Rattle.mo_parser.specs.reading.Starts.{begins_simple}
use Rattle.mo_parser.specs.reading.Equations.{clause_equation}
use Rattle.mo_parser.specs.reading.Outcomes.{turns}
use Rattle.mo_parser.proofs.grammar.reader.Reader.clause_equations.Given as goal

abbrev pub invariant-loop-turn : goal.invariant-loop-turn
invariant-loop-turn l = turns (begins_simple) (clause_equation l.self.depth) (length l.initial.tokens) l.initial.all l.initial.tokens ≡ turns (begins_simple) (clause_equation l.self.depth) (l._turn-end - l._turn) l.all l.tokens
