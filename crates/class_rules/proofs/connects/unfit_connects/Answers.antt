use Rattle.std.proofs.Common.{◌≡◌, ◌∙◌, ◌<◌, ap, sym, refl, flat_map, length, slice_get, Some, arith}
use Rattle.std.proofs.lemmas.Bool.{ltb-true}
use Rattle.std.proofs.lemmas.List.{take_all}
use Rattle.std.proofs.lemmas.Option.{slice_get_read}
use Rattle.class_scopes.specs.Places.{least}
use Rattle.class_scopes.proofs.Leasts.{least_with}
use Rattle.class_rules.specs.N8.{unfit}
use Rattle.class_rules.proofs.Shapes.{equations_at}
use Rattle.class_rules.proofs.connects.unfit_connects.Goals as goal

pub loop-equation-preserved : goal.loop-equation-preserved
loop-equation-preserved c =
    least_with (unfit c.args.scopes.now.named.file.text.now c.args.scopes.now.named.file.classes.now c.args.class) c.as_slice-equation-items.result.now
    c.loop-equation.equation-index c.equation-item.result (omega arith) c.equation-item.is c.loop-equation.least c.lesser-least.result c.unfit.result
    c.loop-equation.invariant c.lesser-least.ensures c.unfit.ensures

pub returns : goal.returns
returns c =
    let text = c.args.scopes.now.named.file.text.now in
    let classes = c.args.scopes.now.named.file.classes.now in
    let definition = c.in-Some.definition.now in
    let within : c.args.class < length classes = ltb-true _ _ (sym c.in-Some.ensures.lookup.0) in
    let at : slice_get classes c.args.class ≡ Some definition = slice_get_read classes (length classes) c.args.class definition refl within c.in-Some.ensures.lookup.1 in
    c.loop-equation.invariant ∙ ap (λ es. least (flat_map (unfit text classes c.args.class) es))
    (take_all c.loop-equation.equation-index c.as_slice-equation-items.result.now (omega arith) ∙ c.as_slice-equation-items.ensures ∙ sym (equations_at text classes c.args.class definition at))
