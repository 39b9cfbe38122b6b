use Rattle.std.proofs.Common.{◌≡◌, ◌∙◌, sym, subst, ap, ap₂, Some, get_or, ◌<◌}
use Rattle.std.specs.Option.{option_copied}
use Rattle.flat_model.specs.declared.clock.Moment.TheVariants.{At}
use Rattle.tick_plan.specs.Plans.{clock_ticks_in}
use Rattle.tick_plan.specs.private.Grid.{grid_tick}
use Rattle.tick_plan.specs.Left.{seen}
use Rattle.tick_plan.proofs.Gridded.{periodic_ticks, step_some, factor_some}
use Rattle.tick_plan.proofs.grid_plan.GridPlanTicking.ticking.Goals as goal

pub is_grid_tick-requires : goal.is_grid_tick-requires
is_grid_tick-requires c = let p = c.args.self.now in
    subst (λ xs. 0 < get_or xs c.args.class 0) (sym c.as_slice-steps.ensures.value)
    (step_some p.axis.course.clocks p.axis.den p.axis.limit p.firsts.items p.steps.items c.args.class c.in-Periodic.period c.in-Periodic.start p.scaled (sym c.get.ensures.value ∙ ap option_copied c.in-Some-get.is ∙ ap Some c.in-Periodic.is))

pub is_event_tick-requires : goal.is_event_tick-requires
is_event_tick-requires c = let p = c.args.self.now in
    factor_some p.axis.course.clocks p.axis.den p.axis.limit p.firsts.items p.steps.items c.args.class c.in-Event.site c.in-Event.factor c.in-Event.shift p.scaled (sym c.get.ensures.value ∙ ap option_copied c.in-Some-get.is ∙ ap Some c.in-Event.is)

pub returns-in-Periodic : goal.returns-in-Periodic
returns-in-Periodic c =
    let p = c.args.self.now in
    let clock = sym c.get.ensures.value ∙ ap option_copied c.in-Some-get.is ∙ ap Some c.in-Periodic.is in
    let given : p.axis.course.given ≡ Some (At c.in-At.at) = c.in-Some.is ∙ ap Some c.in-At.is in
    c.is_grid_tick.ensures
    ∙ ap₂ (λ xs ys. grid_tick p.axis.den (get_or xs c.args.class 0) (get_or ys c.args.class 0) c.in-At.at) c.as_slice-firsts.ensures.value c.as_slice-steps.ensures.value
    ∙ periodic_ticks p.axis p.firsts.items p.steps.items c.args.class c.in-Periodic.period c.in-Periodic.start c.in-At.at p.placed p.scaled p.within given clock
    ∙ sym (ap₂ (clock_ticks_in (seen p.axis.course p.left.0 p.risings.items p.noted.items)) given clock)
