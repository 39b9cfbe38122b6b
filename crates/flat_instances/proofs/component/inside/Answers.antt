use Rattle.std.proofs.Common.{rules, ◌≡◌, ◌∙◌, ap, sym, subst, ◌++◌, ◌∷◌, [], is_ok, true}
use Rattle.class_scopes.specs.Spelled.{spelled}
use Rattle.flat_instances.specs.Force.{GiveOutermost, stepped}
use Rattle.flat_instances.proofs.Forces.{inside_force}
use Rattle.flat_instances.proofs.component.inside.Goals as goal

pub returns-clause-scope : goal.returns-clause-scope
returns-clause-scope c =
    let good : is_ok c.push.result ≡ true = search rules in
    let dot = rw good at c.push.ensures.items in
    dot ∙ ap (λ s. s ++ 46 ∷ []) (c.in_ok-inner.ensures ∙ ap (λ n. c.args.scope.now ++ n) c.spelled.ensures)

pub returns-clause-force : goal.returns-clause-force
returns-clause-force c path force =
    let good : is_ok c.push.result ≡ true = search rules in
    let dot = rw good at c.push.ensures.items in
    let inner = dot ∙ ap (λ s. s ++ 46 ∷ []) (c.in_ok-inner.ensures ∙ ap (λ n. c.args.scope.now ++ n) c.spelled.ensures) in
    let along = stepped c.args.scope.now path c.args.element.now in
    let give = subst (GiveOutermost c.args.file.now.text.now c.args.scope.now along) (sym c.as_slice.ensures.value) (c.in_ok-list.ensures path force) in
    inside_force c.args.file.now.text.now c.args.scope.now (spelled c.args.file.now.text.now c.args.element.now.name) c.push.new.self.items along c.as_slice.result.now c.in_ok-modifiers.modifiers
    inner give c.in_ok-modifiers.ensures
