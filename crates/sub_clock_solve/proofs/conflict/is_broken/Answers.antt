use Rattle.std.proofs.Common.{◌≡◌, ◌∙◌, ◌<◌, Some, sym, ap, length}
use Rattle.std.proofs.lemmas.List.{get_or_default}
use Rattle.clock_spread.specs.declared.offers.Found.TheVariants.{Not}
use Rattle.clock_spread.specs.Found.{class_in, found_of}
use Rattle.sub_clock_solve.specs.private.Failing.{kept_grid}
use Rattle.sub_clock_solve.proofs.Clashing.{relation_some, not_from, not_to}
use Rattle.sub_clock_solve.proofs.conflict.is_broken.Goals as goal

pub returns : goal.returns
returns c = λ held agree proper.
    let y = class_in c.args.class_of.now c.args.relation.result in
    let u = class_in c.args.class_of.now c.args.relation.argument in
    let inside_y : y < length c.args.found.now = c.requires.classes c.args.relation.result 0 c.requires.ends.0 in
    let inside_u : u < length c.args.found.now = c.requires.classes c.args.relation.argument 0 c.requires.ends.1 in
    let at_y : c.index-found-class_of.result ≡ found_of c.args.found.now y = c.index-found-class_of.is ∙ get_or_default c.args.found.now y c.index-found-class_of.result Not inside_y in
    let at_u : c.index-found-class_of-2.result ≡ found_of c.args.found.now u = c.index-found-class_of-2.is ∙ get_or_default c.args.found.now u c.index-found-class_of-2.result Not inside_u in
    let e : kept_grid (found_of c.args.found.now y) ≡ Some c.in-Some.derived = ap kept_grid (sym at_y) ∙ sym c.kept.ensures ∙ c.in-Some.is in
    let f : kept_grid (found_of c.args.found.now u) ≡ Some c.in-Some-kept.argument = ap kept_grid (sym at_u) ∙ sym c.kept-2.ensures ∙ c.in-Some-kept.is in
    let law = relation_some c.args.class_of.now c.args.found.now held c.args.relation c.in-Some.derived c.in-Some-kept.argument c.is_related.result agree proper c.requires.given e f c.is_related.ensures in
    (λ t. law.0 (not_from c.is_related.result t), λ d. not_to c.is_related.result (law.1 d))
