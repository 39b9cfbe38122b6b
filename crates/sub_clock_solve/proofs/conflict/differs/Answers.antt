use Rattle.std.proofs.Common.{◌≡◌, ◌∙◌, ◌<◌, Some, sym, ap, length}
use Rattle.std.proofs.lemmas.List.{get_or_default}
use Rattle.clock_spread.specs.declared.offers.Found.TheVariants.{Not}
use Rattle.clock_spread.specs.Found.{class_in, found_of}
use Rattle.sub_clock_solve.specs.private.Failing.{kept_grid}
use Rattle.sub_clock_solve.proofs.Clashing.{source_some, not_from, not_to}
use Rattle.sub_clock_solve.proofs.conflict.differs.Goals as goal

pub returns-in-Some : goal.returns-in-Some
returns-in-Some c = λ held source agree proper is own.
    let class = class_in c.args.class_of.now c.args.given.node in
    let inside : class < length c.args.found.now = c.requires.classes c.args.given.node 0 c.requires.node in
    let at : c.index-found-class_of.result ≡ found_of c.args.found.now class = c.index-found-class_of.is ∙ get_or_default c.args.found.now class c.index-found-class_of.result Not inside in
    let e : kept_grid (found_of c.args.found.now class) ≡ Some c.in-Some.grid = ap kept_grid (sym at) ∙ sym c.kept.ensures ∙ c.in-Some.is in
    let law = source_some c.args.class_of.now c.args.found.now held c.args.given source c.in-Some.grid c.are_same.result agree proper is own e c.are_same.ensures in
    (λ t. law.0 (not_from c.are_same.result t), λ d. not_to c.are_same.result (law.1 d))
