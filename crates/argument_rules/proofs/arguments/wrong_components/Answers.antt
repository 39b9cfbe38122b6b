use Rattle.std.proofs.Common.{arith}
use Rattle.class_scopes.proofs.Leasts.{least_with}
use Rattle.argument_rules.specs.N5.{wrong_component}
use Rattle.argument_rules.proofs.arguments.wrong_components.Goals as goal

pub loop-element-preserved : goal.loop-element-preserved
loop-element-preserved c =
    least_with (wrong_component c.args.scopes.now.named.file.text.now c.args.scopes.now.named.file.classes.now) c.args.elements.now c.loop-element.element-index c.element-item.result
    (omega arith) c.element-item.is c.loop-element.least c.lesser-least.result c.in_ok-wrong_component.field-0 c.loop-element.invariant c.lesser-least.ensures c.in_ok-wrong_component.ensures
