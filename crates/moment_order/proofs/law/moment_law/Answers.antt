use Rattle.std.proofs.Common.{map}
use Rattle.eq_order.specs.Order.{use_of}
use Rattle.moment_theory.proofs.Divided.{order_free, order_same}
use Rattle.moment_theory.proofs.Unheld.{unheld_pure}
use Rattle.moment_order.proofs.Same.{answered_order}
use Rattle.moment_order.proofs.law.moment_law.Goals as goal

pub returns : goal.returns
returns c = λ s order group count runs answers unheld below.
    let is_order = answered_order s order answers in
    let is_pure = unheld_pure s (map use_of order) group runs is_order.uses_are unheld in record {
      runs = runs;
      uses_are = is_order;
      same = order_same s runs (map use_of order) is_order.uses_are (λ entry. group entry.name) is_pure count below;
      free = order_free s runs (map use_of order) is_order.uses_are (λ entry. group entry.name) is_pure count;
    }
