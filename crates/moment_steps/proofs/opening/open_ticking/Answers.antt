use Rattle.std.proofs.Common.{rules, arith, length, ◌<◌, ◌≤◌}
use Rattle.partition_step.proofs.Lists.{written_next, written_last}
use Rattle.moment_steps.specs.Ticked.{row_ticks}
use Rattle.moment_steps.specs.Opening.{opened_by, standing}
use Rattle.moment_steps.proofs.opening.open_ticking.Goals as goal

pub loop-at-preserved : goal.loop-at-preserved
loop-at-preserved c =
    let size = c.loop-at.invariant.size in
    written_next (opened_by c.args.numbers.now c.args.last.now c.args.now.now (standing c.args.clocking.now (row_ticks c.args.ticks.now) c.args.answers.now)) c.args.cells.now c.loop-at.cells c.loop-at.at c.opened_ticking.result _ c.loop-at.invariant
    (omega (arith, c.loop-at-test.true, size)) c.opened_ticking.ensures

pub returns : goal.returns
returns c =
    let all : length c.args.cells.now ≤ c.loop-at.at = search rules in
    written_last (opened_by c.args.numbers.now c.args.last.now c.args.now.now (standing c.args.clocking.now (row_ticks c.args.ticks.now) c.args.answers.now)) c.args.cells.now c.loop-at.cells c.loop-at.at c.loop-at.invariant all
