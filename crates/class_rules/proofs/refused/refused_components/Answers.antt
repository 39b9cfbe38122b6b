use Rattle.std.proofs.Common.{◌∙◌, ap, arith}
use Rattle.class_scopes.specs.Places.{least, unless}
use Rattle.class_scopes.specs.Spelled.{place_of}
use Rattle.class_scopes.proofs.Leasts.{least_with}
use Rattle.class_rules.specs.N9.{refused_component}
use Rattle.class_rules.proofs.refused.refused_components.Goals as goal

pub loop-element-preserved : goal.loop-element-preserved
loop-element-preserved c =
    least_with (refused_component c.args.file.now.text.now c.args.file.now.classes.now c.args.kind) c.args.elements.now c.loop-element.element-index c.element-item.result
    (omega arith) c.element-item.is c.loop-element.least c.lesser-least.result c.unless.result c.loop-element.invariant c.lesser-least.ensures
    (c.unless.ensures ∙ ap (λ allowed. least (unless allowed (place_of c.element-item.result.base))) c.is_allowed-allowed.ensures)
