use Rattle.std.proofs.Common.{◌∙◌, sym, ap, subst, arith, ◌+◌, length, Some}
use Rattle.std.proofs.Props.{props}
use Rattle.std.proofs.lemmas.Option.{slice_get_within}
use Rattle.tick_plan.specs.private.Course.{IsFirstOf}
use Rattle.tick_plan.proofs.Untold.{lift, known}
use Rattle.tick_plan.proofs.Fractions.{IsTickBelow, none_below, first_more, first_still, all_below, own_grid, found}
use Rattle.tick_plan.proofs.fraction.tick_ahead.Goals as goal
use Rattle.tick_plan.proofs.fraction.tick_ahead.Goals.{in-Periodic, in_default}

pub first_tick-requires-clause-clock : goal.first_tick-requires-clause-clock
first_tick-requires-clause-clock c =
    let at = found c.args.course.now.clocks c.as_slice-clock-items.result.now c.loop-clock.clock-index c.clock-item.result c.as_slice-clock-items.ensures c.loop-clock-test.true c.clock-item.is in
    known (hlevel props) (λ is. is.countable c.loop-clock.clock-index c.in-Periodic.period c.in-Periodic.start (at ∙ ap Some c.in-Periodic.is)) c.requires

pub first_tick-requires-clause-grid : goal.first_tick-requires-clause-grid
first_tick-requires-clause-grid c =
    let at = found c.args.course.now.clocks c.as_slice-clock-items.result.now c.loop-clock.clock-index c.clock-item.result c.as_slice-clock-items.ensures c.loop-clock-test.true c.clock-item.is in
    lift (λ is. own_grid c.args.course.now.clocks is.common c.loop-clock.clock-index c.in-Periodic.period c.in-Periodic.start (at ∙ ap Some c.in-Periodic.is)) c.requires

pub first_tick-requires-clause-early : goal.first_tick-requires-clause-early
first_tick-requires-clause-early c = known (hlevel props) (λ is. is.early) c.requires

pub first_tick-requires-clause-within : goal.first_tick-requires-clause-within
first_tick-requires-clause-within c = lift (λ is. is.within) c.requires

pub loop-clock-init : goal.loop-clock-init
loop-clock-init c = ∣ none_below c.args.course.now ∣₁

pub loop-clock-preserved : goal.loop-clock-preserved
loop-clock-preserved c =
    let course = c.args.course.now in
    let n = c.loop-clock.clock-index in
    let at = found course.clocks c.as_slice-clock-items.result.now n c.clock-item.result c.as_slice-clock-items.ensures c.loop-clock-test.true c.clock-item.is in
    elim c.match-clock.branch [
      | in-Periodic w ↦ subst (λ r. ∥ IsFirstOf (IsTickBelow course (n + 1)) course.given r ∥₁) (sym (w.first-is ∙ w.earlier-first.ensures))
          (lift (λ old. first_more course n w.in-Periodic.period w.in-Periodic.start c.loop-clock.first w.first_tick.result (at ∙ ap Some w.in-Periodic.is) old w.first_tick.ensures) c.loop-clock.invariant)
      | in_default w ↦ subst (λ r. ∥ IsFirstOf (IsTickBelow course (n + 1)) course.given r ∥₁) (sym w.first-is)
          (lift (λ old. first_still course n c.clock-item.result c.loop-clock.first at w.in_default.not-Periodic old) c.loop-clock.invariant)
    ]

pub returns : goal.returns
returns c = let course = c.args.course.now in
    lift (λ old. all_below course c.loop-clock.clock-index c.loop-clock.first (omega (arith, ap length c.as_slice-clock-items.ensures, c.loop-clock-test.false)) (λ t tick. slice_get_within course.clocks tick.clock _ tick.is) old) c.loop-clock.invariant
