use Rattle.std.proofs.Common.{◌∙◌, ap, ◌++◌, ◌∷◌, []}
use Rattle.flat_instances.specs.Force.{listed}
use Rattle.flat_instances.proofs.Forces.{entered}
use Rattle.flat_instances.proofs.component.modifiers_of.Goals as goal

pub returns : goal.returns
returns c path force =
    entered c.args.text.now c.own.result c.args.element.now c.own.ensures.parts c.own.ensures.args c.own.ensures.binding
    c.args.scope.now path c.args.modifiers.now c.in_ok-list.list.items c.own.ensures.scope
    (c.in_ok-list.ensures ∙ ap (λ name. listed c.args.modifiers.now name ++ c.own.result ∷ []) c.spelled-name.ensures) force
