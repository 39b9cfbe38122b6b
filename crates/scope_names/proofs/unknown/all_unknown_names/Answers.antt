use Rattle.std.proofs.Common.{get_or, arith}
use Rattle.std.proofs.lemmas.List.{get_or_default}
use Rattle.class_scopes.proofs.Leasts.{least_with}
use Rattle.scope_names.specs.N3.{unknown_names}
use Rattle.scope_names.proofs.unknown.all_unknown_names.Goals as goal

pub loop-class-preserved : goal.loop-class-preserved
loop-class-preserved c =
    let i = c.loop-class.class-index in
    let x = get_or c.args.classes.now i 0 in
    least_with (unknown_names c.args.scopes.now.named.file.text.now c.args.scopes.now.named.file.classes.now) c.args.classes.now i x (omega arith) (get_or_default c.args.classes.now i 0 x (omega arith)) c.loop-class.least c.lesser-least.result c.in_ok-unknown_names.field-0
    c.loop-class.invariant c.lesser-least.ensures c.in_ok-unknown_names.ensures
