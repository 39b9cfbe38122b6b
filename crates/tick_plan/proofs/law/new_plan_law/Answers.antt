use Rattle.tick_plan.proofs.OneAnswer.{planned_once, new_plan_once, few_or_many}
use Rattle.tick_plan.proofs.law.new_plan_law.Goals as goal

pub returns-clause-count : goal.returns-clause-count
returns-clause-count c = planned_once

pub returns-clause-plan : goal.returns-clause-plan
returns-clause-plan c = new_plan_once

pub returns-clause-end : goal.returns-clause-end
returns-clause-end c = few_or_many
