use Rattle.std.proofs.Common.{arith}
use Rattle.tick_plan.proofs.Counts.{few_ticks}
use Rattle.tick_plan.proofs.planned.ticks_of.Goals as goal

pub returns-in-Periodic-clause-small : goal.returns-in-Periodic-clause-small
returns-in-Periodic-clause-small c =
    let is = c.requires.clock c.in-Periodic.period c.in-Periodic.start c.in-Periodic.is in
    let few = few_ticks c.in-Periodic.period c.in-Periodic.start c.args.stop c.ticks_until.result is.moving is.period_parts.1 c.requires.stop.0 c.ticks_until.ensures in omega (arith, few)
