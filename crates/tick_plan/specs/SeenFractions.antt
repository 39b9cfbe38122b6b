-- What contracts see of the plan on fractions.
use Rattle.tick_plan.specs.declared.fraction_plan.FractionPlan.{FractionPlan}
use Rattle.tick_plan.specs.Left.{seen}
use Rattle.tick_plan.specs.Plans.{Planned}

abbrev pub fraction_seen : FractionPlan → Planned
fraction_seen p = seen p.course p.left.0 p.risings.items p.noted.items
