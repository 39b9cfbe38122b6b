use Rattle.std.proofs.Common.{◌≡◌, ◌∙◌, ap, sym, Some, None, arith}
use Rattle.mo_parser.specs.declared.tree.Arg.TheViews.{out-Arg}
use Rattle.class_scopes.specs.Places.{least, unless}
use Rattle.class_scopes.specs.Spelled.{idents, place_of}
use Rattle.class_scopes.proofs.Leasts.{least_with, least_both}
use Rattle.argument_rules.specs.declared.target.Target.TheVariants.{Attribute, Part}
use Rattle.argument_rules.specs.Targets.{target_in, takes_value, misplaced_by, misplaced_in}
use Rattle.argument_rules.proofs.Checks.{misplaced-none, misplaced-attribute, misplaced-part}
use Rattle.argument_rules.proofs.target.+misplaced.Goals as goal

pub misplaced_by-returns-in-Some-Part : goal.misplaced_by-returns-in-Some-Part
misplaced_by-returns-in-Some-Part t c =
    let text = c.args.scopes.now.named.file.text.now in
    let classes = c.args.scopes.now.named.file.classes.now in
    let arg = c.args.arg.now in
    let type = c.in-Some-Part.type_name in
    let led : target_in text classes c.args.inside (idents text (out-Arg arg).name) ≡ Some (Part type) = cc (c.target_in.ensures, c.in-Some-Part.is, c.in-Some-Part.field-0-is) in
    least_both c.valued-value.result c.lesser.result c.misplaced_in.result
    (unless (takes_value text classes type (out-Arg arg).binding) (place_of (out-Arg arg).name)) (misplaced_in text classes (Some type) (out-Arg arg).args)
    c.valued-value.ensures c.lesser.ensures
    (c.misplaced_in.ensures ∙ ap (λ args. least (misplaced_in text classes (Some type) args)) c.as_slice.ensures)
    ∙ ap least (sym (misplaced-part text classes arg c.args.inside type led))

pub misplaced_by-returns-in-Some-Attribute : goal.misplaced_by-returns-in-Some-Attribute
misplaced_by-returns-in-Some-Attribute t c =
    let text = c.args.scopes.now.named.file.text.now in
    let classes = c.args.scopes.now.named.file.classes.now in
    let arg = c.args.arg.now in
    let led : target_in text classes c.args.inside (idents text (out-Arg arg).name) ≡ Some Attribute = cc (c.target_in.ensures, c.in-Some-Attribute.is, c.in-Some-Attribute.field-0-is) in
    c.misplaced_in-in-Some-Attribute.ensures ∙ ap (λ args. least (misplaced_in text classes None args)) c.as_slice-in-Some-Attribute.ensures
    ∙ ap least (sym (misplaced-attribute text classes arg c.args.inside led))

pub misplaced_by-returns-in-None : goal.misplaced_by-returns-in-None
misplaced_by-returns-in-None t c =
    let text = c.args.scopes.now.named.file.text.now in
    let classes = c.args.scopes.now.named.file.classes.now in
    let arg = c.args.arg.now in
    let led : target_in text classes c.args.inside (idents text (out-Arg arg).name) ≡ None = cc (c.target_in.ensures, c.in-None.is) in
    ap Some c.place_of.ensures ∙ ap least (sym (misplaced-none text classes arg c.args.inside led))

pub misplaced_in-loop-arg-preserved : goal.misplaced_in-loop-arg-preserved
misplaced_in-loop-arg-preserved t c =
    least_with (λ arg. misplaced_by c.args.scopes.now.named.file.text.now c.args.scopes.now.named.file.classes.now arg c.args.inside) c.args.args.now c.loop-arg.arg-index c.arg-item.result
    (omega arith) c.arg-item.is c.loop-arg.least c.lesser-least.result c.misplaced_by.result c.loop-arg.invariant c.lesser-least.ensures c.misplaced_by.ensures
