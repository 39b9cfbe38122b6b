use Rattle.std.proofs.Common.{◌∙◌, ap, refl, flat_map, Some}
use Rattle.class_scopes.specs.Places.{least}
use Rattle.class_scopes.proofs.Firsts.{first_place}
use Rattle.class_rules.specs.N9.{refused}
use Rattle.class_rules.proofs.refused.refused_type.Goals as goal

pub returns : goal.returns
returns c =
    let text = c.args.named.now.file.text.now in
    let classes = c.args.named.now.file.classes.now in
    let chosen = c.args.named.now.chosen in
    first_place text classes (Some chosen) chosen c.args.named.now.reached.items refl c.requires (refused text classes) c.all_refused.result
    (c.all_refused.ensures ∙ ap (λ s. least (flat_map (refused text classes) s)) c.as_slice.ensures.value)
