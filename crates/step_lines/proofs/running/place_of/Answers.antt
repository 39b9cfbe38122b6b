use Rattle.std.proofs.Common.{arith}
use Rattle.step_lines.proofs.Placing.{passed_more, passed_ends}
use Rattle.step_lines.proofs.running.place_of.Goals as goal
use Rattle.step_lines.proofs.running.place_of.Goals.{then-loop-next-test+else-left-marks, else-loop-next-test}

pub loop-next-preserved : goal.loop-next-preserved
loop-next-preserved c = passed_more c.args.marks.now c.args.left c.loop-next.next 0 c.loop-next.invariant c.loop-next-test.true c.if-left-marks.true

pub returns : goal.returns
returns c =
    passed_ends c.args.marks.now c.args.left c.loop-next.next 0 c.loop-next.invariant
    (λ short less. elim c.loop-next-test.branch [ then-loop-next-test+else-left-marks w ↦ (let a = w.if-left-marks in omega (arith, a, less)) | else-loop-next-test w ↦ (let a = w.loop-next-test in omega (arith, a, short)) ])
