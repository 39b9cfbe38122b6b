use Rattle.std.proofs.Common.{◌≡◌, ◌-◌, length}
use Rattle.mo_parser.specs.reading.Expressions.{expr, is_op, link}
use Rattle.mo_parser.specs.reading.Outcomes.{turns}
use Rattle.mo_parser.proofs.grammar.expressions.Grammar.more_links.Given as goal

abbrev pub invariant-loop-turn : goal.invariant-loop-turn
invariant-loop-turn g l = turns (is_op g.C.Chain.op_by) (link g.C.Chain.op_by (g.C.Chain.part_by (expr l.self.depth))) (length l.initial.tokens) l.initial.links l.initial.tokens ≡ turns (is_op g.C.Chain.op_by) (link g.C.Chain.op_by (g.C.Chain.part_by (expr l.self.depth))) (l._turn-end - l._turn) l.links l.tokens
