use Rattle.std.proofs.Common.{rules, arith, length, ◌≤◌}
use Rattle.partition_step.proofs.Lists.{written_next, written_last}
use Rattle.share_run.specs.private.Gathering.{owned_at}
use Rattle.share_run.proofs.gathering.gather.Goals as goal

pub loop-at-preserved : goal.loop-at-preserved
loop-at-preserved c =
    let size = c.loop-at.invariant.size in
    written_next (owned_at c.args.owners.now c.args.numbers.now c.args.places.now c.args.slots.now) c.args.now.now c.loop-at.now c.loop-at.at c.owned_at.result _ c.loop-at.invariant (omega (arith, c.loop-at-test.true, size)) c.owned_at.ensures

pub returns : goal.returns
returns c =
    let all : length c.args.now.now ≤ c.loop-at.at = search rules in
    written_last (owned_at c.args.owners.now c.args.numbers.now c.args.places.now c.args.slots.now) c.args.now.now c.loop-at.now c.loop-at.at c.loop-at.invariant all
