use Rattle.std.proofs.Common.{get_or, arith}
use Rattle.std.proofs.lemmas.List.{get_or_default}
use Rattle.class_scopes.proofs.Leasts.{least_with}
use Rattle.class_rules.specs.N8.{unfit_connects}
use Rattle.class_rules.proofs.connects.all_unfit.Goals as goal

pub loop-class-preserved : goal.loop-class-preserved
loop-class-preserved c =
    let i = c.loop-class.class-index in
    let x = get_or c.args.classes.now i 0 in
    least_with (unfit_connects c.args.scopes.now.named.file.text.now c.args.scopes.now.named.file.classes.now) c.args.classes.now i x (omega arith) (get_or_default c.args.classes.now i 0 x (omega arith)) c.loop-class.least c.lesser-least.result c.unfit_connects.result
    c.loop-class.invariant c.lesser-least.ensures c.unfit_connects.ensures
