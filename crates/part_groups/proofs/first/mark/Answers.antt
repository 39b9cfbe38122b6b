use Rattle.std.proofs.Common.{rules, ◌≡◌, ◌<◌, length, get_or, slice_index_or, slice_set, ◌≤◌}
use Rattle.base_partition.proofs.Least.{mark_more, mark_done}
use Rattle.part_groups.proofs.first.mark.Goals as goal

pub loop-x-preserved : goal.loop-x-preserved
loop-x-preserved c =
    let within : c.loop-x.x-index < length c.args.class.now = search rules in
    let bound : get_or c.args.class.now c.loop-x.x-index 0 < length c.loop-x.first = search rules in
    let size : length (slice_set c.loop-x.first (get_or c.args.class.now c.loop-x.x-index 0) c.in-Some.least.now) ≡ length c.args.first.now = search rules in
    (size, mark_more c.loop-x.x-index c.in-Some.least.now c.args.class.now c.args.first.now c.loop-x.first within bound c.loop-x.invariant.1)

pub returns-clause-marks : goal.returns-clause-marks
returns-clause-marks c =
    let all : length c.args.class.now ≤ c.loop-x.x-index = search rules in
    let least : c.in-Some.least.now ≡ slice_index_or c.args.class.now 0 0 = search rules in
    mark_done c.loop-x.x-index c.in-Some.least.now c.args.class.now c.args.first.now c.loop-x.first all least c.loop-x.invariant.1
