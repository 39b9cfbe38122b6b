use Rattle.std.proofs.Common.{sym}
use Rattle.part_stretches.proofs.Looping.{runs_fails}
use Rattle.part_stretches.proofs.running.run_stretches.Goals as goal

pub returns-in-Some-clause-runs : goal.returns-in-Some-clause-runs
returns-in-Some-clause-runs c =
    runs_fails c.args.ticking.now c.args.stretches.now c.loop-i.i c.loop-i.cells c.args.cells.now c.loop-i.invariant c.index-stretches-i.result c.loop-i-test.true c.index-stretches-i.is c.run_lines.new.cells c.in-Some.failing (sym c.if-ticks.ensures) c.in-Some.ensures.runs
