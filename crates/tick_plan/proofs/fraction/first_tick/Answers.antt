use Rattle.tick_plan.proofs.FirstPlaces.{units_are}
use Rattle.tick_plan.proofs.Fractions.{before_limit, key_first, key_none, limit_some, step_above}
use Rattle.tick_plan.proofs.fraction.first_tick.Goals as goal

pub next_units-units-requires-clause-some : goal.next_units-units-requires-clause-some
next_units-units-requires-clause-some c = step_above c.with_clock-den.result c.limit_of-limit.result c.args.period c.args.start c.units_of-first.result c.units_of-step.result
    (units_are c.with_clock-den.result c.limit_of-limit.result c.args.period c.args.start c.units_of-first.result c.units_of-step.result c.with_clock-den.ensures.some c.requires.clock.moving c.units_of-first.ensures c.units_of-step.ensures)
    (limit_some c.with_clock-den.result c.args.stop c.limit_of-limit.result c.limit_of-limit.ensures.limit)

pub next_units-units-requires-clause-past : goal.next_units-units-requires-clause-past
next_units-units-requires-clause-past c = before_limit c.args.given c.args.stop c.with_clock-den.result c.limit_of-limit.result ∣ c.limit_of-limit.ensures.limit ∣₁ c.requires.within

pub returns-then-units-limit : goal.returns-then-units-limit
returns-then-units-limit c = key_first c.with_clock-den.result c.limit_of-limit.result c.next_units-units.result c.units_of-step.result c.args.period c.args.start c.args.stop c.args.given c.with_clock-den.ensures.some c.limit_of-limit.ensures.limit
    (c.next_units-units.ensures c.args.period c.args.start (units_are c.with_clock-den.result c.limit_of-limit.result c.args.period c.args.start c.units_of-first.result c.units_of-step.result c.with_clock-den.ensures.some c.requires.clock.moving c.units_of-first.ensures c.units_of-step.ensures))
    c.if-units-limit.true c.make.result c.make.ensures

pub returns-else-units-limit : goal.returns-else-units-limit
returns-else-units-limit c = key_none c.with_clock-den.result c.limit_of-limit.result c.next_units-units.result c.units_of-step.result c.args.period c.args.start c.args.stop c.args.given c.with_clock-den.ensures.some c.limit_of-limit.ensures.limit
    (c.next_units-units.ensures c.args.period c.args.start (units_are c.with_clock-den.result c.limit_of-limit.result c.args.period c.args.start c.units_of-first.result c.units_of-step.result c.with_clock-den.ensures.some c.requires.clock.moving c.units_of-first.ensures c.units_of-step.ensures))
    c.if-units-limit.false
