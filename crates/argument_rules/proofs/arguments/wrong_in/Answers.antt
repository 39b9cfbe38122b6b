use Rattle.std.proofs.Common.{◌∙◌, ap, flat_map}
use Rattle.class_scopes.specs.Places.{least, in_option}
use Rattle.class_scopes.proofs.Leasts.{least_both}
use Rattle.argument_rules.specs.N5.{wrong_component, wrong_short}
use Rattle.argument_rules.proofs.arguments.wrong_in.Goals as goal

pub returns : goal.returns
returns c =
    let text = c.args.scopes.now.named.file.text.now in
    let classes = c.args.scopes.now.named.file.classes.now in
    let definition = c.args.definition.now in
    let f = wrong_component text classes in
    let first = c.in_ok-components.ensures ∙ ap (λ es. least (flat_map f es)) c.as_slice.ensures in
    let second = c.in_ok-short.ensures ∙ ap (λ o. least (in_option (wrong_short text classes c.args.class) o)) c.as_ref.ensures.value in
    least_both c.in_ok-components.components c.lesser.result c.in_ok-short.short (flat_map f definition.elements) (in_option (wrong_short text classes c.args.class) definition.short)
    first c.lesser.ensures second
