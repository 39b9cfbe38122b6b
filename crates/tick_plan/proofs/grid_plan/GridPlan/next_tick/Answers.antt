use Rattle.std.proofs.Common.{◌∙◌, sym, subst, ap, Some, get_or, ◌<◌, ◌≤◌}
use Rattle.std.proofs.Props.{props}
use Rattle.std.specs.Option.{option_copied}
use Rattle.tick_plan.proofs.Fractions.{before_limit}
use Rattle.tick_plan.proofs.Gridded.{step_some, first_within}
use Rattle.tick_plan.proofs.TicksLeft.{tick_left, none_left}
use Rattle.tick_plan.proofs.Untold.{lift, lift₃, lift₄, known}
use Rattle.tick_plan.proofs.grid_plan.GridPlan.next_tick.Goals as goal

pub next_units-units-requires-clause-some : goal.next_units-units-requires-clause-some
next_units-units-requires-clause-some c = let p = c.args.self.now in
    subst (λ xs. 0 < get_or xs c.args.class 0) (sym c.as_slice-steps.ensures.value)
    (step_some p.axis.course.clocks p.axis.den p.axis.limit p.firsts.items p.steps.items c.args.class c.in-Periodic.period c.in-Periodic.start p.scaled (sym c.get.ensures.value ∙ ap option_copied c.in-Some.is ∙ ap Some c.in-Periodic.is))

pub next_units-units-requires-clause-first : goal.next_units-units-requires-clause-first
next_units-units-requires-clause-first c = let p = c.args.self.now in
    subst (λ xs. get_or xs c.args.class 0 ≤ p.axis.limit) (sym c.as_slice-firsts.ensures.value)
    (first_within p.axis.course.clocks p.axis.den p.axis.limit p.firsts.items p.steps.items c.args.class c.in-Periodic.period c.in-Periodic.start p.scaled (sym c.get.ensures.value ∙ ap option_copied c.in-Some.is ∙ ap Some c.in-Periodic.is))

pub next_units-units-requires-clause-grain : goal.next_units-units-requires-clause-grain
next_units-units-requires-clause-grain c = known (hlevel props) (λ is. is.grain) c.args.self.now.placed

pub next_units-units-requires-clause-past : goal.next_units-units-requires-clause-past
next_units-units-requires-clause-past c = let p = c.args.self.now in before_limit p.axis.course.given p.axis.course.stop p.axis.den p.axis.limit (lift (λ is. is.limit_is) p.placed) p.within

pub returns-then-units-self : goal.returns-then-units-self
returns-then-units-self c =
    let p = c.args.self.now in
    let a = p.axis in
    let clock = sym c.get.ensures.value ∙ ap option_copied c.in-Some.is ∙ ap Some c.in-Periodic.is in
    let key = rw (c.as_slice-firsts.ensures.value, c.as_slice-steps.ensures.value) at c.next_units-units.ensures in
    lift₄ (λ is s left least. tick_left a.course p.left.0 p.risings.items p.noted.items left c.args.class c.in-Periodic.period c.in-Periodic.start clock a.den a.limit c.next_units-units.result (get_or p.steps.items c.args.class 0)
    is.grain is.limit_is (key c.in-Periodic.period c.in-Periodic.start (s.units c.args.class c.in-Periodic.period c.in-Periodic.start clock)) c.if-units-self.true least) p.placed p.scaled p.left.1 p.least

pub returns-else-units-self : goal.returns-else-units-self
returns-else-units-self c =
    let p = c.args.self.now in
    let a = p.axis in
    let clock = sym c.get.ensures.value ∙ ap option_copied c.in-Some.is ∙ ap Some c.in-Periodic.is in
    let key = rw (c.as_slice-firsts.ensures.value, c.as_slice-steps.ensures.value) at c.next_units-units.ensures in
    lift₃ (λ is s left. none_left a.course p.left.0 p.risings.items p.noted.items left c.args.class c.in-Periodic.period c.in-Periodic.start clock a.den a.limit c.next_units-units.result (get_or p.steps.items c.args.class 0)
    is.grain is.limit_is (key c.in-Periodic.period c.in-Periodic.start (s.units c.args.class c.in-Periodic.period c.in-Periodic.start clock)) c.if-units-self.false) p.placed p.scaled p.left.1
