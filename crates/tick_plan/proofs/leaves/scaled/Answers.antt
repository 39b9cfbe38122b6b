use Rattle.std.proofs.Common.{◌∙◌, ap, refl, arith, ◌+◌, length, Some}
use Rattle.std.proofs.lemmas.Option.{slice_get_read, slice_get_within}
use Rattle.tick_plan.proofs.Growing.{grown}
use Rattle.tick_plan.proofs.LeafLaws.{units_more}
use Rattle.tick_plan.proofs.leaves.scaled.Goals as goal

pub units_in-units-requires : goal.units_in-units-requires
units_in-units-requires c p s is =
    let at = slice_get_read c.args.clocks.now (length c.args.clocks.now) c.loop-clock.clock-index c.clock-item.result refl c.loop-clock-test.true c.clock-item.is in
    c.requires.common.divided c.loop-clock.clock-index p s (at ∙ ap Some is)

pub loop-clock-preserved : goal.loop-clock-preserved
loop-clock-preserved c =
    let inv = c.loop-clock.invariant in
    let at = slice_get_read c.args.clocks.now (length c.args.clocks.now) c.loop-clock.clock-index c.clock-item.result refl c.loop-clock-test.true c.clock-item.is in
    record {
      long = ap length c.in_ok-push.ensures.items ∙ grown c.loop-clock.firsts.items c.units_in-units.result.first ∙ ap (λ n. n + 1) inv.long;
      wide = ap length c.in_ok-push-2.ensures.items ∙ grown c.loop-clock.steps.items c.units_in-units.result.step ∙ ap (λ n. n + 1) inv.wide;
      units = rw (c.in_ok-push.ensures.items, c.in_ok-push-2.ensures.items) (units_more c.args.clocks.now c.args.den c.args.limit c.loop-clock.clock-index c.clock-item.result c.loop-clock.firsts.items c.loop-clock.steps.items
          c.units_in-units.result.first c.units_in-units.result.step c.requires.common.some c.requires.countable at inv.long inv.wide c.units_in-units.ensures inv.units);
    }

pub returns : goal.returns
returns c = let inv = c.loop-clock.invariant in let all = c.loop-clock-test.false in record {
  long = omega (arith, inv.long, all);
  wide = omega (arith, inv.wide, all);
  some = c.requires.some;
  units = λ i p s is. inv.units i p s (omega (arith, slice_get_within c.args.clocks.now i _ is, all)) is;
  factors = c.requires.factors;
}
