use Rattle.std.proofs.Common.{None}
use Rattle.class_scopes.specs.Reached.{chosen_by}
use Rattle.class_order_tests.proofs.Reaches.{reaches}
use Rattle.class_order_tests.proofs.orders.answer.Goals as goal

pub judged-requires : goal.judged-requires
judged-requires g c =
    reaches c.args.text.now c.as_slice.result.now (chosen_by c.args.text.now c.as_slice.result.now None) c.names.result c.in-Ok.named c.names.ensures c.in-Ok.is
