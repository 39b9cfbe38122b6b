use Rattle.std.proofs.Common.{◌≡◌, ◌∙◌, ap, ap₂, sym, ◌++◌, flat_map, map, take, subst, arith}
use Rattle.std.specs.Option.{option_copied}
use Rattle.class_scopes.specs.Places.{in_option}
use Rattle.class_scopes.proofs.Leasts.{one_more}
use Rattle.scope_names.specs.Written.{Adds, joined, names_in, names_in_arg, names_in_element}
use Rattle.scope_names.proofs.WrittenNodes.{adds_on, joined_map}
use Rattle.scope_names.proofs.unknown.names_in_elements.Goals as goal

pub loop-element-preserved : goal.loop-element-preserved
loop-element-preserved c =
    let elements = c.args.elements.now in
    let i = c.loop-element.element-index in
    let x = c.element-item.result in
    let new = c.names_in_value.new.found.items in
    let same : joined (map names_in_arg c.as_slice.result.now) ++ in_option names_in (option_copied c.as_ref.result) ≡ names_in_element x =
    ap₂ (λ args value. joined (map names_in_arg args) ++ in_option names_in value) c.as_slice.ensures c.as_ref.ensures.value
    ∙ ap (λ r. r ++ in_option names_in x.binding) (joined_map names_in_arg x.args) in
    let here : Adds c.loop-element.found.items (names_in_element x) new =
    subst (λ more. Adds c.loop-element.found.items more new) same
    (adds_on c.loop-element.found.items c.names_in_args.new.found.items new _ _ c.in_ok-names_in_args.ensures c.in_ok-names_in_value.ensures) in
    subst (λ more. Adds c.args.found.now.items more new) (sym (one_more names_in_element elements i x (omega arith) c.element-item.is))
    (adds_on c.args.found.now.items c.loop-element.found.items new (flat_map names_in_element (take i elements)) (names_in_element x) c.loop-element.invariant here)
