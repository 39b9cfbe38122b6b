use Rattle.moment_order.proofs.Ordering.{staged_free}
use Rattle.moment_order.proofs.law.stages_law.Goals as goal

pub returns : goal.returns
returns c = staged_free
