use Rattle.std.proofs.Common.{get_or, arith}
use Rattle.std.proofs.lemmas.List.{get_or_default}
use Rattle.class_scopes.specs.N2.{repeated_elements}
use Rattle.class_scopes.proofs.Leasts.{least_with}
use Rattle.class_scopes.proofs.name_rules.all_repeated_elements.Goals as goal

pub loop-class-preserved : goal.loop-class-preserved
loop-class-preserved c =
    let i = c.loop-class.class-index in
    let x = get_or c.args.classes.now i 0 in
    least_with (repeated_elements c.args.file.now.text.now c.args.file.now.classes.now) c.args.classes.now i x (omega arith) (get_or_default c.args.classes.now i 0 x (omega arith)) c.loop-class.least c.lesser-least.result c.in_ok-declared.declared.repeated
    c.loop-class.invariant c.lesser-least.ensures c.in_ok-declared.ensures.repeated
