use Rattle.std.proofs.Common.{rules, ◌<◌, length}
use Rattle.std.proofs.lemmas.Option.{slice_get-get_or}
use Rattle.part_groups.proofs.Numbering.{units_more, units_all}
use Rattle.part_groups.proofs.units.units_of.Goals as goal

pub loop-stage-preserved : goal.loop-stage-preserved
loop-stage-preserved c =
    let within : c.loop-stage.stage-index < length c.args.stages.now = search rules in
    units_more c.args.count c.args.stages.now c.loop-stage.stage-index c.loop-stage.next c.in_ok-next.next _ c.unit_in.result c.loop-stage.of_use c.push.new.self (slice_get-get_or c.args.stages.now c.loop-stage.stage-index _ within)
    c.loop-stage.invariant c.unit_in.ensures c.in_ok-push.ensures.ok c.in_ok-next.ensures

pub returns : goal.returns
returns c = units_all c.args.count c.args.stages.now c.loop-stage.stage-index c.loop-stage.of_use c.loop-stage.next c.loop-stage.invariant (let past = c.loop-stage-test.false in search rules)
