use Rattle.std.proofs.Common.{◌≡◌, ◌∙◌, ap, refl, ◌++◌, ◌∷◌, [], map, codes}
use Rattle.class_scopes.specs.Spelled.{spelled}
use Rattle.flat_instances.specs.Force.{first_given, stepped}
use Rattle.flat_instances.specs.Instances.{outermost}
use Rattle.flat_instances.specs.declared.item.Variable.{Variable}
use Rattle.flat_instances.proofs.Walking.{variable_seen}
use Rattle.flat_instances.proofs.component.variable.Goals as goal

pub returns : goal.returns
returns c path force =
    let text = c.args.file.now.text.now in
    let name = c.args.scope.now ++ spelled text c.args.element.now.name in
    let along = stepped c.args.scope.now path c.args.element.now in
    let named = c.in_ok-name-2.ensures ∙ c.as_slice.ensures.value ∙ c.in_ok-name.ensures ∙ ap (λ n. c.args.scope.now ++ n) c.spelled.ensures in
    let begun : map (λ part. part.now) c.as_slice-6.result.now ≡ codes "start" ∷ [] = ap (map (λ part. part.now)) c.as_slice-6.ensures ∙ ap (λ n. n ∷ []) c.as_slice-2.ensures in
    let kept : Variable = record { name = c.in_ok-name-2.name; element = c.args.element; type_name = c.args.type_name; binding = c.given_to.result; start = c.given_to-2.result } in
    variable_seen text c.args.file.now.classes.now kept name c.args.element.now c.args.type_name (outermost text [] along) (outermost text (codes "start" ∷ []) along) named refl refl
    (c.given_to.ensures c.in_ok-name-2.name ∙ ap (λ p. first_given text c.in_ok-name-2.name (map (λ part. part.now) p) c.as_slice-3.result.now) c.as_slice-4.ensures
    ∙ ap (λ n. first_given text n [] c.as_slice-3.result.now) named ∙ ap (first_given text name []) c.as_slice-3.ensures.value ∙ c.in_ok-list.ensures path force _ [])
    (c.given_to-2.ensures c.in_ok-name-2.name ∙ ap (λ p. first_given text c.in_ok-name-2.name p c.as_slice-5.result.now) begun
    ∙ ap (λ n. first_given text n (codes "start" ∷ []) c.as_slice-5.result.now) named ∙ ap (first_given text name (codes "start" ∷ [])) c.as_slice-5.ensures.value ∙ c.in_ok-list.ensures path force _ (codes "start" ∷ []))
