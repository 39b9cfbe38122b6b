use Rattle.std.proofs.Common.{◌∙◌, ap, refl, flat_map, Some}
use Rattle.class_scopes.specs.Places.{least}
use Rattle.class_scopes.proofs.Firsts.{first_place}
use Rattle.class_rules.specs.N8.{unfit_connects}
use Rattle.class_rules.proofs.connects.unfit_connect.Goals as goal

pub returns : goal.returns
returns c =
    let text = c.args.scopes.now.named.file.text.now in
    let classes = c.args.scopes.now.named.file.classes.now in
    let chosen = c.args.scopes.now.named.chosen in
    first_place text classes (Some chosen) chosen c.args.scopes.now.named.reached.items refl c.requires (unfit_connects text classes) c.all_unfit.result
    (c.all_unfit.ensures ∙ ap (λ s. least (flat_map (unfit_connects text classes) s)) c.as_slice.ensures.value)
