use Rattle.moment_theory.proofs.Divided.{order_free, order_same}
use Rattle.moment_theory.proofs.Unheld.{unheld_pure}
use Rattle.moment_theory.proofs.law.ordered_law.Goals as goal

pub returns : goal.returns
returns c = λ s uses group count runs order_is unheld below. record {
  runs = runs;
  uses_are = order_is;
  same = order_same s runs uses order_is.uses_are (λ entry. group entry.name) (unheld_pure s uses group runs order_is.uses_are unheld) count below;
  free = order_free s runs uses order_is.uses_are (λ entry. group entry.name) (unheld_pure s uses group runs order_is.uses_are unheld) count;
}
