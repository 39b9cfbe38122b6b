use Rattle.std.proofs.Common.{rules, arith, length, ◌≤◌}
use Rattle.partition_step.proofs.Lists.{written_next, written_last}
use Rattle.share_window.specs.private.Owning.{own_by}
use Rattle.share_window.proofs.window.copy_own.Goals as goal

pub loop-at-preserved : goal.loop-at-preserved
loop-at-preserved c =
    let size = c.loop-at.invariant.size in
    written_next (own_by c.args.own.now c.args.now.now) c.args.row.now c.loop-at.row c.loop-at.at c.own_value.result _ c.loop-at.invariant (omega (arith, c.loop-at-test.true, size)) c.own_value.ensures

pub returns : goal.returns
returns c =
    let all : length c.args.row.now ≤ c.loop-at.at = search rules in
    written_last (own_by c.args.own.now c.args.now.now) c.args.row.now c.loop-at.row c.loop-at.at c.loop-at.invariant all
