use Rattle.std.proofs.Common.{◌∙◌, ap, flat_map}
use Rattle.class_scopes.specs.Places.{least, in_option}
use Rattle.class_scopes.proofs.Leasts.{least_both}
use Rattle.class_rules.specs.N9.{refused_component, refused_short}
use Rattle.class_rules.proofs.refused.refused_in.Goals as goal

pub returns : goal.returns
returns c =
    let text = c.args.file.now.text.now in
    let classes = c.args.file.now.classes.now in
    let definition = c.args.definition.now in
    let f = refused_component text classes definition.kind in
    let first = c.refused_components-components.ensures ∙ ap (λ es. least (flat_map f es)) c.as_slice.ensures in
    let second = c.refused_short.ensures ∙ ap (λ o. least (in_option (refused_short text classes) o)) c.as_ref.ensures.value in
    least_both c.refused_components-components.result c.lesser.result c.refused_short.result (flat_map f definition.elements) (in_option (refused_short text classes) definition.short)
    first c.lesser.ensures second
