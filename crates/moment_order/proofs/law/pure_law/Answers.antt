use Rattle.moment_order.proofs.Ordering.{largest_pure}
use Rattle.moment_order.proofs.law.pure_law.Goals as goal

pub returns : goal.returns
returns c = λ s uses stages other is_pure are. largest_pure s uses other are.pure is_pure are.largest
