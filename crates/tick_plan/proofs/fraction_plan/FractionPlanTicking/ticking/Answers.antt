use Rattle.std.proofs.Common.{◌∙◌, sym, ap, ap₂, Some}
use Rattle.std.proofs.Props.{props}
use Rattle.std.specs.Option.{option_copied}
use Rattle.tick_plan.specs.Plans.{clock_ticks_in}
use Rattle.tick_plan.specs.Left.{seen}
use Rattle.tick_plan.proofs.Fractions.{own_grid}
use Rattle.tick_plan.proofs.FractionTicks.{fraction_ticks, step_of, factor_of}
use Rattle.tick_plan.proofs.Untold.{lift, known}
use Rattle.tick_plan.proofs.fraction_plan.FractionPlanTicking.ticking.Goals as goal

pub with_clock-den-requires-clause-within : goal.with_clock-den-requires-clause-within
with_clock-den-requires-clause-within c = let p = c.args.self.now in
    lift (λ is. own_grid p.course.clocks is.common c.args.class c.in-Periodic.period c.in-Periodic.start (sym c.get.ensures.value ∙ ap option_copied c.in-Some-get.is ∙ ap Some c.in-Periodic.is)) p.whole

pub limit_of-limit-requires-clause-early : goal.limit_of-limit-requires-clause-early
limit_of-limit-requires-clause-early c = known (hlevel props) (λ is. is.early) c.args.self.now.whole

pub is_grid_tick-requires : goal.is_grid_tick-requires
is_grid_tick-requires c = let p = c.args.self.now in
    step_of p.course c.args.class c.in-Periodic.period c.in-Periodic.start c.with_clock-den.result c.limit_of-limit.result _ _ p.whole (sym c.get.ensures.value ∙ ap option_copied c.in-Some-get.is ∙ ap Some c.in-Periodic.is)
    c.with_clock-den.ensures.some c.limit_of-limit.ensures.limit c.units_of.ensures c.units_of-in-Periodic.ensures

pub is_event_tick-requires : goal.is_event_tick-requires
is_event_tick-requires c = let p = c.args.self.now in
    factor_of p.course c.args.class c.in-Event.site c.in-Event.factor c.in-Event.shift p.whole (sym c.get.ensures.value ∙ ap option_copied c.in-Some-get.is ∙ ap Some c.in-Event.is)

pub returns-in-Periodic : goal.returns-in-Periodic
returns-in-Periodic c =
    let p = c.args.self.now in
    let clock = sym c.get.ensures.value ∙ ap option_copied c.in-Some-get.is ∙ ap Some c.in-Periodic.is in
    let given = c.in-Some.is ∙ ap Some c.in-At.is in
    c.is_grid_tick.ensures
    ∙ fraction_ticks p.course c.args.class c.in-Periodic.period c.in-Periodic.start c.in-At.at c.with_clock-den.result c.limit_of-limit.result _ _ p.whole clock given
    c.with_clock-den.ensures.some c.limit_of-limit.ensures.limit c.units_of.ensures c.units_of-in-Periodic.ensures
    ∙ sym (ap₂ (clock_ticks_in (seen p.course p.left.0 p.risings.items p.noted.items)) given clock)
