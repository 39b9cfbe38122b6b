use Rattle.std.proofs.Common.{◌∙◌, ap, sym, ◌++◌, flat_map, arith}
use Rattle.std.proofs.lemmas.List.{take_all}
use Rattle.class_scopes.specs.Places.{least}
use Rattle.class_scopes.specs.Places.{in_option}
use Rattle.class_scopes.specs.Types.{elements_of}
use Rattle.class_scopes.specs.N1.{unknown_type}
use Rattle.class_scopes.proofs.Leasts.{least_with, least_both, short_named}
use Rattle.class_scopes.proofs.name_rules.unknown_types.Goals as goal

pub loop-element-preserved : goal.loop-element-preserved
loop-element-preserved c =
    least_with (λ element. unknown_type c.args.file.now.text.now c.args.file.now.classes.now element.base) c.elements_of-element-items.result.now
    c.loop-element.element-index c.element-item.result (omega arith) c.element-item.is c.loop-element.least c.lesser-least.result c.unknown_type.result
    c.loop-element.invariant c.lesser-least.ensures c.unknown_type.ensures

pub returns-in-Some : goal.returns-in-Some
returns-in-Some c =
    let text = c.args.file.now.text.now in
    let classes = c.args.file.now.classes.now in
    let elements = c.elements_of-element-items.result.now in
    let before = c.loop-element.invariant ∙ ap (λ es. least (flat_map (λ element. unknown_type text classes element.base) es)) (take_all c.loop-element.element-index elements (omega arith) ∙ c.elements_of-element-items.ensures) in
    let named = short_named c.short_of.result c.in-Some.short _ c.in-Some.is c.short_of.ensures in
    least_both c.loop-element.least c.lesser.result c.unknown_type-in-Some.result (flat_map (λ element. unknown_type text classes element.base) (elements_of text classes c.args.class)) (unknown_type text classes c.in-Some.short.now.base) before c.lesser.ensures c.unknown_type-in-Some.ensures
    ∙ ap (λ o. least (flat_map (λ element. unknown_type text classes element.base) (elements_of text classes c.args.class) ++ in_option (λ short. unknown_type text classes short.base) o)) (sym named)
