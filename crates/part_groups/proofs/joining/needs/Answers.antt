use Rattle.std.proofs.Common.{rules, ◌<◌, length}
use Rattle.std.proofs.lemmas.Option.{slice_get-get_or}
use Rattle.part_groups.proofs.Pairing.{pairs_more}
use Rattle.part_groups.proofs.joining.needs.Goals as goal

pub loop-at-preserved : goal.loop-at-preserved
loop-at-preserved c =
    let within : c.loop-at.at < length c.args.order.now = search rules in
    pairs_more c.args.equations.now c.args.owners.now c.args.order.now c.args.units.now c.loop-at.at _ c.unit_at.result c.loop-at.pairs c.join_use.new.pairs (slice_get-get_or c.args.order.now c.loop-at.at _ within)
    c.unit_at.ensures c.in_ok-join_use.ensures c.loop-at.invariant
