use Rattle.std.proofs.Common.{rules, arith, ◌≡◌, ap, ap₂, sym, subst, ◌∙◌, ◌∷◌, ◌++◌}
use Rattle.flat_model.specs.declared.expression.Expr.TheVariants.{Chain, Neg, Not}
use Rattle.flat_model.specs.Occurrences.{is_reached}
use Rattle.flat_model.proofs.Nodes.{nodes, nodes-Neg, nodes-Not, nodes-Chain}
use Rattle.eq_orient.proofs.Down.{all_nodes_append}
use Rattle.eq_orient.proofs.Reached.{is_reached-Neg, is_reached-Not}
use Rattle.undone_side.specs.Undone.{UndoesTo, negation, inversion}
use Rattle.undone_side.proofs.Leading.{at_name, step, formed_neg, formed_not, formed_part, formed_long}
use Rattle.undone_side.proofs.undoing.+undone.Goals as goal

pub undone-requires : goal.undone-requires
undone-requires t c =
    let part : c.get.result.now ≡ c.in-Neg.part = search rules in
    let same = ap nodes part in
    let size = ap nodes c.in-Neg.is ∙ nodes-Neg c.in-Neg.part in
    (omega (arith, c.decreases, same, size), ap (is_reached c.args.name) part ∙ sym (is_reached-Neg c.args.name c.in-Neg.part) ∙ ap (is_reached c.args.name) (sym c.in-Neg.is) ∙ c.requires)

pub undone-requires-in-Not : goal.undone-requires-in-Not
undone-requires-in-Not t c =
    let part : c.get-in-Not.result.now ≡ c.in-Not.part = search rules in
    let same = ap nodes part in
    let size = ap nodes c.in-Not.is ∙ nodes-Not c.in-Not.part in
    (omega (arith, c.decreases, same, size), ap (is_reached c.args.name) part ∙ sym (is_reached-Not c.args.name c.in-Not.part) ∙ ap (is_reached c.args.name) (sym c.in-Not.is) ∙ c.requires)

pub undone-requires-in-Chain : goal.undone-requires-in-Chain
undone-requires-in-Chain t c =
    let front = c.around.result.0.now in let part = c.around.result.1.now in let back = c.around.result.2.now in
    let parts_is : c.as_slice.result.now ≡ c.in-Chain.parts = search rules in
    let is : c.args.expr.now ≡ Chain (front ++ part ∷ back) c.in-Chain.ops = c.in-Chain.is ∙ ap (λ ps. Chain ps c.in-Chain.ops) (sym parts_is ∙ c.around.ensures.split) in
    let size = ap nodes is ∙ nodes-Chain (front ++ part ∷ back) c.in-Chain.ops in
    let less = all_nodes_append front part back in
    (omega (arith, c.decreases, size, less), c.around.ensures.reached)

pub returns-in-Read : goal.returns-in-Read
returns-in-Read t c = at_name c.args.name c.in-Read.field-0 c.args.expr.now c.args.whole c.in-Read.is c.requires

pub returns-in_ok-new-in-Neg : goal.returns-in_ok-new-in-Neg
returns-in_ok-new-in-Neg t c =
    let part : c.get.result.now ≡ c.in-Neg.part = search rules in
    let whole : c.in_ok-new-in-Neg.field-0 ≡ c.args.whole = c.in_ok-new-in-Neg.ensures in
    step c.args.name c.args.expr.now c.get.result.now c.args.whole (Neg c.in_ok-new-in-Neg.field-0) c.undone.result (formed_neg c.args.expr.now c.get.result.now (c.in-Neg.is ∙ ap Neg (sym part)))
    (λ side rest. negation c.args.expr.now c.get.result.now c.args.whole side (c.in-Neg.is ∙ ap Neg (sym part)) (subst (λ w. UndoesTo c.args.name c.get.result.now (Neg w) side) whole rest)) c.undone.ensures

pub returns-in_ok-new-in-Not : goal.returns-in_ok-new-in-Not
returns-in_ok-new-in-Not t c =
    let part : c.get-in-Not.result.now ≡ c.in-Not.part = search rules in
    let whole : c.in_ok-new-in-Not.field-0 ≡ c.args.whole = c.in_ok-new-in-Not.ensures in
    step c.args.name c.args.expr.now c.get-in-Not.result.now c.args.whole (Not c.in_ok-new-in-Not.field-0) c.undone-in-Not.result (formed_not c.args.expr.now c.get-in-Not.result.now (c.in-Not.is ∙ ap Not (sym part)))
    (λ side rest. inversion c.args.expr.now c.get-in-Not.result.now c.args.whole side (c.in-Not.is ∙ ap Not (sym part)) (subst (λ w. UndoesTo c.args.name c.get-in-Not.result.now (Not w) side) whole rest)) c.undone-in-Not.ensures

pub returns-in_ok-rest-in-Chain : goal.returns-in_ok-rest-in-Chain
returns-in_ok-rest-in-Chain t c =
    let front = c.around.result.0.now in let part = c.around.result.1.now in let back = c.around.result.2.now in
    let ops = c.as_slice-in-Chain.result.now in
    let parts_is : c.as_slice.result.now ≡ c.in-Chain.parts = search rules in
    let ops_is : ops ≡ c.in-Chain.ops = search rules in
    let is : c.args.expr.now ≡ Chain (front ++ part ∷ back) ops = c.in-Chain.is ∙ ap₂ Chain (sym parts_is ∙ c.around.ensures.split) (sym ops_is) in
    step c.args.name c.args.expr.now part c.args.whole c.in_ok-rest-in-Chain.rest c.undone-in-Chain.result (formed_part c.args.expr.now front part back ops is)
    (λ side rest. subst (λ e. UndoesTo c.args.name e c.args.whole side) (sym is) (c.in_ok-rest-in-Chain.ensures c.args.name part side c.around.ensures.reached rest)) c.undone-in-Chain.ensures

pub returns-then-len-front : goal.returns-then-len-front
returns-then-len-front t c = λ formed.
    let front = c.around.result.0.now in let part = c.around.result.1.now in let back = c.around.result.2.now in
    let parts_is : c.as_slice.result.now ≡ c.in-Chain.parts = search rules in
    let is : c.args.expr.now ≡ Chain (front ++ part ∷ back) c.in-Chain.ops = c.in-Chain.is ∙ ap (λ ps. Chain ps c.in-Chain.ops) (sym parts_is ∙ c.around.ensures.split) in
    let long = formed_long c.args.expr.now front part back c.in-Chain.ops is formed in
    c.if-len-front.true (search rules)
