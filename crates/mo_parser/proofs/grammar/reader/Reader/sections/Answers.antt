use Rattle.std.proofs.Common.{inl, inr, rules}
use Rattle.mo_parser.specs.reading.Starts.{begins_section}
use Rattle.mo_parser.specs.reading.Classes.{section}
use Rattle.mo_parser.proofs.Turns.{ended, failed, turned}
use Rattle.mo_parser.proofs.grammar.reader.Reader.sections.Goals.{else-loop-turn-test, then-loop-turn-test+then-not-begins_section}
use Rattle.mo_parser.proofs.grammar.reader.Reader.sections.Goals as goal

pub loop-turn-preserved : goal.loop-turn-preserved
loop-turn-preserved c = turned (begins_section) (section c.args.self.now.depth) c.count-turn-end.result c.loop-turn._turn _ _ _ _ c.loop-turn-test.true c.loop-turn.invariant (search rules) (search rules)

pub returns-in_err-body : goal.returns-in_err-body
returns-in_err-body c = failed (begins_section) (section c.args.self.now.depth) c.count-turn-end.result c.loop-turn._turn _ _ _ _ c.in_err-body.field-0.0 c.loop-turn-test.true c.loop-turn.invariant (search rules) c.in_err-body.ensures (search rules)

pub returns : goal.returns
returns c = ended (begins_section) (section c.args.self.now.depth) c.count-turn-end.result c.loop-turn._turn _ _ c.loop-turn.invariant (elim c.loop-turn-test.branch [ else-loop-turn-test w ↦ inl (search rules) | then-loop-turn-test+then-not-begins_section w ↦ inr (search rules) ])
