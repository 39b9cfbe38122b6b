use Rattle.moment_theory.proofs.Divided.{order_free, order_same}
use Rattle.moment_theory.proofs.law.division_law.Goals as goal

pub returns : goal.returns
returns c = λ s uses pure count runs are is_pure below. (order_same s runs uses are pure is_pure count below, order_free s runs uses are pure is_pure count)
