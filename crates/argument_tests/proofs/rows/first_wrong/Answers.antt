use Rattle.std.proofs.Common.{option_map}
use Rattle.class_scopes.specs.Reached.{chosen_by}
use Rattle.argument_tests.proofs.Reaches.{reaches}
use Rattle.argument_tests.proofs.rows.first_wrong.Goals as goal

pub first_behind-requires : goal.first_behind-requires
first_behind-requires g c =
    reaches c.args.text.now c.as_slice.result.now (chosen_by c.args.text.now c.as_slice.result.now (option_map (λ name. name.now) c.args.class)) c.names.result c.in-Ok.named c.names.ensures c.in-Ok.is
