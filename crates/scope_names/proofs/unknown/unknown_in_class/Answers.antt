use Rattle.std.proofs.Common.{◌≡◌, ◌∙◌, ap, ap₂, ◌++◌, flat_map, map}
use Rattle.class_scopes.specs.Places.{least}
use Rattle.scope_names.specs.N3.{unknown_name}
use Rattle.scope_names.specs.Written.{joined, names_in_element, names_in_equation, names_of_class}
use Rattle.scope_names.proofs.Lent.{lent, added_all}
use Rattle.scope_names.proofs.WrittenNodes.{adds_on, joined_map}
use Rattle.scope_names.proofs.unknown.unknown_in_class.Goals as goal

pub returns : goal.returns
returns c =
    let f = unknown_name c.args.scopes.now.named.file.text.now c.args.scopes.now.named.file.classes.now c.args.class in
    let start = c.new-found.result.items in
    let new = c.names_in_equations.new.found.items in
    let same : flat_map names_in_element c.as_slice.result.now ++ joined (map names_in_equation c.as_slice-2.result.now) ≡ names_of_class c.args.definition.now =
    ap₂ (λ elements equations. flat_map names_in_element elements ++ joined (map names_in_equation equations)) c.as_slice.ensures c.as_slice-2.ensures
    ∙ ap (λ r. flat_map names_in_element c.args.definition.now.elements ++ r) (joined_map names_in_equation c.args.definition.now.equations) in
    let all = added_all start new _ c.new-found.ensures.items (adds_on start c.names_in_elements.new.found.items new _ _ c.in_ok-names_in_elements.ensures c.in_ok-names_in_equations.ensures) in
    c.unknown_among.ensures ∙ ap (λ ps. least (flat_map f (lent ps))) c.as_slice-3.ensures.value ∙ ap (λ ps. least (flat_map f ps)) (all ∙ same)
