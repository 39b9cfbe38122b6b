use Rattle.tick_plan.proofs.Untold.{lift}
use Rattle.tick_plan.proofs.Firsts.{tick_some_of, tick_none_of, tick_empty_of}
use Rattle.tick_plan.proofs.ahead.tick_ahead.Goals as goal

pub returns-then-nodes-lt2 : goal.returns-then-nodes-lt2
returns-then-nodes-lt2 c = lift (λ is. tick_empty_of c.args.axis.now is c.as_slice-nodes.result.now c.as_slice-nodes.ensures.value c.if-nodes-lt2.true) c.requires

pub returns-then-nodes-axis : goal.returns-then-nodes-axis
returns-then-nodes-axis c = lift (λ is. tick_some_of c.args.axis.now is c.as_slice-nodes.result.now c.as_slice-nodes.ensures.value c.if-nodes-lt2.false c.if-nodes-axis.true c.make.result c.make.ensures) c.requires

pub returns-else-nodes-axis : goal.returns-else-nodes-axis
returns-else-nodes-axis c = lift (λ is. tick_none_of c.args.axis.now is c.as_slice-nodes.result.now c.as_slice-nodes.ensures.value c.if-nodes-axis.false) c.requires
