use Rattle.std.proofs.Common.{inl, inr, rules}
use Rattle.mo_parser.specs.reading.Expressions.{expr, is_op, link}
use Rattle.mo_parser.proofs.Turns.{ended, failed, turned}
use Rattle.mo_parser.proofs.grammar.expressions.Grammar.more_links.Goals.{else-loop-turn-test, then-loop-turn-test+then-is_none}
use Rattle.mo_parser.proofs.grammar.expressions.Grammar.more_links.Goals as goal

pub loop-turn-preserved : goal.loop-turn-preserved
loop-turn-preserved g c = turned (is_op g.C.Chain.op_by) (link g.C.Chain.op_by (g.C.Chain.part_by (expr c.args.self.now.depth))) c.count-turn-end.result c.loop-turn._turn _ _ _ _ c.loop-turn-test.true c.loop-turn.invariant (search rules) (search rules)

pub returns-in_err-links : goal.returns-in_err-links
returns-in_err-links g c = failed (is_op g.C.Chain.op_by) (link g.C.Chain.op_by (g.C.Chain.part_by (expr c.args.self.now.depth))) c.count-turn-end.result c.loop-turn._turn _ _ _ _ c.in_err-links.field-0.0 c.loop-turn-test.true c.loop-turn.invariant (search rules) c.in_err-links.ensures (search rules)

pub returns : goal.returns
returns g c = ended (is_op g.C.Chain.op_by) (link g.C.Chain.op_by (g.C.Chain.part_by (expr c.args.self.now.depth))) c.count-turn-end.result c.loop-turn._turn _ _ c.loop-turn.invariant (elim c.loop-turn-test.branch [ else-loop-turn-test w ↦ inl (search rules) | then-loop-turn-test+then-is_none w ↦ inr (search rules) ])
