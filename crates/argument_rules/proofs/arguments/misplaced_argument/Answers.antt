use Rattle.std.proofs.Common.{◌∙◌, ap, refl, flat_map, Some}
use Rattle.class_scopes.specs.Places.{least}
use Rattle.class_scopes.proofs.Firsts.{first_place}
use Rattle.argument_rules.specs.N5.{wrong}
use Rattle.argument_rules.proofs.arguments.misplaced_argument.Goals as goal

pub returns : goal.returns
returns c =
    let text = c.args.scopes.now.named.file.text.now in
    let classes = c.args.scopes.now.named.file.classes.now in
    let chosen = c.args.scopes.now.named.chosen in
    first_place text classes (Some chosen) chosen c.args.scopes.now.named.reached.items refl c.requires (wrong text classes) c.in_ok-least.least
    (c.in_ok-least.ensures ∙ ap (λ s. least (flat_map (wrong text classes) s)) c.as_slice.ensures.value)
