use Rattle.std.proofs.Common.{refl, arith, ◌+◌, length}
use Rattle.std.proofs.lemmas.Option.{slice_get_read}
use Rattle.tick_plan.proofs.Counts.{ticks_more}
use Rattle.tick_plan.proofs.planned.count_of.Goals as goal

pub loop-clock-preserved : goal.loop-clock-preserved
loop-clock-preserved c =
    let inv = c.loop-clock.invariant in
    let at = slice_get_read c.args.clocks.now (length c.args.clocks.now) c.loop-clock.clock-index c.clock-item.result refl c.loop-clock-test.true c.clock-item.is in
    let e = c.ticks_of-count.ensures in record {
      ticks = (inv.ticks.0 + c.ticks_of-count.result, ticks_more c.args.stop c.from-rows.result c.args.clocks.now c.loop-clock.clock-index c.clock-item.result inv.ticks.0 c.ticks_of-count.result at inv.ticks.1 e.ticks, omega (arith, inv.ticks.2));
      few = omega (arith, inv.few, e.small);
    }
