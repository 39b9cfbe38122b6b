use Rattle.std.proofs.Common.{inl, inr, rules}
use Rattle.mo_parser.specs.reading.Starts.{begins_class}
use Rattle.mo_parser.specs.reading.Classes.{class_line}
use Rattle.mo_parser.proofs.Turns.{ended, failed, turned}
use Rattle.mo_parser.proofs.grammar.reader.Reader.class_lines.Goals.{else-loop-turn-test, then-loop-turn-test+then-not-begins_class}
use Rattle.mo_parser.proofs.grammar.reader.Reader.class_lines.Goals as goal

pub loop-turn-preserved : goal.loop-turn-preserved
loop-turn-preserved c = turned (begins_class) (class_line c.args.text.now c.args.self.now.depth) c.count-turn-end.result c.loop-turn._turn _ _ _ _ c.loop-turn-test.true c.loop-turn.invariant (search rules) (search rules)

pub returns-in_err-all : goal.returns-in_err-all
returns-in_err-all c = failed (begins_class) (class_line c.args.text.now c.args.self.now.depth) c.count-turn-end.result c.loop-turn._turn _ _ _ _ c.in_err-all.field-0.0 c.loop-turn-test.true c.loop-turn.invariant (search rules) c.in_err-all.ensures (search rules)

pub returns : goal.returns
returns c = ended (begins_class) (class_line c.args.text.now c.args.self.now.depth) c.count-turn-end.result c.loop-turn._turn _ _ c.loop-turn.invariant (elim c.loop-turn-test.branch [ else-loop-turn-test w ↦ inl (search rules) | then-loop-turn-test+then-not-begins_class w ↦ inr (search rules) ])
