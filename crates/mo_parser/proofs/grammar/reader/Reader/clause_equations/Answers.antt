use Rattle.std.proofs.Common.{inl, inr, rules}
use Rattle.mo_parser.specs.reading.Starts.{begins_simple}
use Rattle.mo_parser.specs.reading.Equations.{clause_equation}
use Rattle.mo_parser.proofs.Turns.{ended, failed, turned}
use Rattle.mo_parser.proofs.grammar.reader.Reader.clause_equations.Goals.{else-loop-turn-test, then-loop-turn-test+then-not-begins_simple}
use Rattle.mo_parser.proofs.grammar.reader.Reader.clause_equations.Goals as goal

pub loop-turn-preserved : goal.loop-turn-preserved
loop-turn-preserved c = turned (begins_simple) (clause_equation c.args.self.now.depth) c.count-turn-end.result c.loop-turn._turn _ _ _ _ c.loop-turn-test.true c.loop-turn.invariant (search rules) (search rules)

pub returns-in_err-all : goal.returns-in_err-all
returns-in_err-all c = failed (begins_simple) (clause_equation c.args.self.now.depth) c.count-turn-end.result c.loop-turn._turn _ _ _ _ c.in_err-all.field-0.0 c.loop-turn-test.true c.loop-turn.invariant (search rules) c.in_err-all.ensures (search rules)

pub returns : goal.returns
returns c = ended (begins_simple) (clause_equation c.args.self.now.depth) c.count-turn-end.result c.loop-turn._turn _ _ c.loop-turn.invariant (elim c.loop-turn-test.branch [ else-loop-turn-test w ↦ inl (search rules) | then-loop-turn-test+then-not-begins_simple w ↦ inr (search rules) ])
