use Rattle.std.proofs.Common.{get_or, arith}
use Rattle.std.proofs.lemmas.List.{get_or_default}
use Rattle.class_scopes.proofs.Leasts.{least_with}
use Rattle.argument_rules.specs.N5.{wrong}
use Rattle.argument_rules.proofs.arguments.all_wrong.Goals as goal

pub loop-class-preserved : goal.loop-class-preserved
loop-class-preserved c =
    let i = c.loop-class.class-index in
    let x = get_or c.args.classes.now i 0 in
    least_with (wrong c.args.scopes.now.named.file.text.now c.args.scopes.now.named.file.classes.now) c.args.classes.now i x (omega arith) (get_or_default c.args.classes.now i 0 x (omega arith)) c.loop-class.least c.lesser-least.result c.in_ok-wrong.field-0
    c.loop-class.invariant c.lesser-least.ensures c.in_ok-wrong.ensures
