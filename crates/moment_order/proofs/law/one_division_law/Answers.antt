use Rattle.moment_order.proofs.Ordering.{one_division}
use Rattle.moment_order.proofs.law.one_division_law.Goals as goal

pub returns : goal.returns
returns c = one_division
