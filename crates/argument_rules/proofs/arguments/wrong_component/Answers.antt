use Rattle.std.proofs.Common.{◌∙◌, ap₂}
use Rattle.class_scopes.specs.Places.{least}
use Rattle.class_scopes.specs.Types.{type_of}
use Rattle.class_scopes.proofs.Leasts.{least_both}
use Rattle.argument_rules.specs.N5.{valued, wrong_among}
use Rattle.argument_rules.proofs.arguments.wrong_component.Goals as goal

pub returns : goal.returns
returns c =
    let text = c.args.scopes.now.named.file.text.now in
    let classes = c.args.scopes.now.named.file.classes.now in
    let element = c.args.element.now in
    least_both c.valued.result c.lesser.result c.in_ok-inside.inside (valued text classes element) (wrong_among text classes (type_of text classes element.base) element.args)
    c.valued.ensures c.lesser.ensures
    (c.in_ok-inside.ensures ∙ ap₂ (λ modified args. least (wrong_among text classes modified args)) c.type_of-modified.ensures c.as_slice.ensures)
