use Rattle.std.proofs.Common.{sym, subst}
use Rattle.class_order.specs.Orders.{ArePartsFirst}
use Rattle.class_order_tests.proofs.orders.judged.Goals as goal

pub too_deep-requires-clause-order : goal.too_deep-requires-clause-order
too_deep-requires-clause-order c =
    subst (ArePartsFirst c.args.named.now.file.text.now c.args.named.now.file.classes.now c.args.named.now.chosen) (sym c.as_slice.ensures.value) c.in_ok-order.ensures.1

pub filled-requires-clause-order : goal.filled-requires-clause-order
filled-requires-clause-order c =
    subst (ArePartsFirst c.args.named.now.file.text.now c.args.named.now.file.classes.now c.args.named.now.chosen) (sym c.as_slice-in-None.ensures.value) c.in_ok-order.ensures.1
