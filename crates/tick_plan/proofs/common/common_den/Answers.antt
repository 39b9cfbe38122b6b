use Rattle.std.proofs.Common.{◌∙◌, ap, refl, arith, Some, length}
use Rattle.std.proofs.Math.Nat.{one-dvd}
use Rattle.std.proofs.lemmas.Nat.Gcd.{le_of_dvd}
use Rattle.std.proofs.lemmas.Option.{slice_get_within, slice_get_read}
use Rattle.tick_plan.proofs.Commons.{within_of, divided_more, least_multiple}
use Rattle.tick_plan.proofs.common.common_den.Goals as goal

pub loop-clock-init : goal.loop-clock-init
loop-clock-init c = record { some = omega arith; divided = λ i p s lt is. absurd (omega (arith, lt)); least = λ m h. one-dvd m }

pub returns-clause-common : goal.returns-clause-common
returns-clause-common c = let inv = c.loop-clock.invariant in
    record { some = inv.some; divided = λ i p s is. inv.divided i p s (omega (arith, slice_get_within c.args.clocks.now i _ is, c.loop-clock-test.false)) is }

pub returns-clause-small : goal.returns-clause-small
returns-clause-small c = let inv = c.loop-clock.invariant in let le = le_of_dvd c.requires.common.some (inv.least c.requires.den c.requires.common.divided) in omega (arith, le, c.requires.below)

pub with_one-den-requires-clause-within : goal.with_one-den-requires-clause-within
with_one-den-requires-clause-within c p s is =
    let at = slice_get_read c.args.clocks.now (length c.args.clocks.now) c.loop-clock.clock-index c.clock-item.result refl c.loop-clock-test.true c.clock-item.is in
    ∣ within_of c.args.clocks.now c.requires c.loop-clock.den c.loop-clock.clock-index p s (at ∙ ap Some is) c.loop-clock.invariant.least ∣₁

pub loop-clock-preserved : goal.loop-clock-preserved
loop-clock-preserved c =
    let inv = c.loop-clock.invariant in
    let at = slice_get_read c.args.clocks.now (length c.args.clocks.now) c.loop-clock.clock-index c.clock-item.result refl c.loop-clock-test.true c.clock-item.is in
    let e = c.with_one-den.ensures in
    record {
      some = e.some;
      divided = divided_more c.args.clocks.now c.loop-clock.clock-index c.clock-item.result c.loop-clock.den c.with_one-den.result at inv.divided e.own e.parts;
      least = λ m h. e.least m (inv.least m h) (λ p s is. h c.loop-clock.clock-index p s (at ∙ ap Some is));
    }

pub returns-clause-least : goal.returns-clause-least
returns-clause-least c = let inv = c.loop-clock.invariant in
    least_multiple c.args.clocks.now c.loop-clock.den inv.some (λ i p s is. inv.divided i p s (omega (arith, slice_get_within c.args.clocks.now i _ is, c.loop-clock-test.false)) is) inv.least
