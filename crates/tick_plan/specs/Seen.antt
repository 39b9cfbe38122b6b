-- What contracts see of the plan in units.
use Rattle.tick_plan.specs.declared.grid_plan.GridPlan.{GridPlan}
use Rattle.tick_plan.specs.Left.{seen}
use Rattle.tick_plan.specs.Plans.{Planned}

abbrev pub grid_seen : GridPlan → Planned
grid_seen p = seen p.axis.course p.left.0 p.risings.items p.noted.items
