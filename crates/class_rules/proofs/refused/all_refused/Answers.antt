use Rattle.std.proofs.Common.{get_or, arith}
use Rattle.std.proofs.lemmas.List.{get_or_default}
use Rattle.class_scopes.proofs.Leasts.{least_with}
use Rattle.class_rules.specs.N9.{refused}
use Rattle.class_rules.proofs.refused.all_refused.Goals as goal

pub loop-class-preserved : goal.loop-class-preserved
loop-class-preserved c =
    let i = c.loop-class.class-index in
    let x = get_or c.args.classes.now i 0 in
    least_with (refused c.args.file.now.text.now c.args.file.now.classes.now) c.args.classes.now i x (omega arith) (get_or_default c.args.classes.now i 0 x (omega arith)) c.loop-class.least c.lesser-least.result c.refused.result
    c.loop-class.invariant c.lesser-least.ensures c.refused.ensures
