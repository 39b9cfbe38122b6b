use Rattle.std.proofs.Common.{◌∙◌, ap, ap₂, sym, map, ◌++◌}
use Rattle.scope_names.specs.Written.{names_in, joined}
use Rattle.scope_names.proofs.WrittenNodes.{names-Const, names-Name, names-Call, names-Chain, names-Relation, names-Neg, names-Not, names-Power, names-If, adds_none, adds_one, adds_as, adds_then, adds_on}
use Rattle.scope_names.proofs.written.+names.Goals as goal

pub names_in-returns-in-Const : goal.names_in-returns-in-Const
names_in-returns-in-Const t c = adds_none _ _ (names-Const c.args.expr.now c.in-Const.field-0 c.in-Const.is)

pub names_in-returns-in_ok-push-in-Name : goal.names_in-returns-in_ok-push-in-Name
names_in-returns-in_ok-push-in-Name t c = adds_one _ _ _ _ (names-Name c.args.expr.now c.in-Name.path c.in-Name.is) c.in_ok-push-in-Name.ensures.items

pub names_in-returns-in-Call : goal.names_in-returns-in-Call
names_in-returns-in-Call t c =
    adds_as c.names_in_all.result _ _ _ _ (names-Call c.args.expr.now c.in-Call.field-0 c.in-Call.parts c.in-Call.is ∙ ap (λ p. joined (map names_in p)) (sym c.as_slice.ensures)) c.names_in_all.ensures

pub names_in-returns-in-Chain : goal.names_in-returns-in-Chain
names_in-returns-in-Chain t c =
    adds_as c.names_in_all-in-Chain.result _ _ _ _
    (names-Chain c.args.expr.now c.in-Chain.parts c.in-Chain.field-1 c.in-Chain.is ∙ ap (λ p. joined (map names_in p)) (sym c.as_slice-in-Chain.ensures)) c.names_in_all-in-Chain.ensures

pub names_in-returns-in_ok-names_in-in-Relation : goal.names_in-returns-in_ok-names_in-in-Relation
names_in-returns-in_ok-names_in-in-Relation t c =
    adds_then c.names_in-in-Relation.result _ _ _ _ _ _
    (names-Relation c.args.expr.now c.in-Relation.field-0 c.in-Relation.left c.in-Relation.right c.in-Relation.is
    ∙ ap₂ (λ a b. names_in a ++ names_in b) (sym c.get.ensures) (sym c.get-in-Relation.ensures))
    c.in_ok-names_in-in-Relation.ensures c.names_in-in-Relation.ensures

pub names_in-returns-in-Neg : goal.names_in-returns-in-Neg
names_in-returns-in-Neg t c =
    adds_as c.names_in-in-Neg.result _ _ _ _ (names-Neg c.args.expr.now c.in-Neg.part c.in-Neg.is ∙ ap names_in (sym c.get-in-Neg.ensures)) c.names_in-in-Neg.ensures

pub names_in-returns-in-Not : goal.names_in-returns-in-Not
names_in-returns-in-Not t c =
    adds_as c.names_in-in-Not.result _ _ _ _ (names-Not c.args.expr.now c.in-Not.part c.in-Not.is ∙ ap names_in (sym c.get-in-Not.ensures)) c.names_in-in-Not.ensures

pub names_in-returns-in_ok-names_in-in-Power : goal.names_in-returns-in_ok-names_in-in-Power
names_in-returns-in_ok-names_in-in-Power t c =
    adds_then c.names_in-in-Power-2.result _ _ _ _ _ _
    (names-Power c.args.expr.now c.in-Power.base c.in-Power.exponent c.in-Power.is
    ∙ ap₂ (λ a b. names_in a ++ names_in b) (sym c.get-in-Power.ensures) (sym c.get-in-Power-2.ensures))
    c.in_ok-names_in-in-Power.ensures c.names_in-in-Power-2.ensures

pub names_in-returns-in_ok-names_in_all-in-If-2 : goal.names_in-returns-in_ok-names_in_all-in-If-2
names_in-returns-in_ok-names_in_all-in-If-2 t c =
    let first = ap (λ p. joined (map names_in p)) (sym c.as_slice-in-If.ensures) in
    let second = ap (λ p. joined (map names_in p)) (sym c.as_slice-in-If-2.ensures) in
    let third = ap names_in (sym c.get-in-If.ensures) in
    adds_then c.names_in-in-If.result _ _ _ _ _ _
    (names-If c.args.expr.now c.in-If.conditions c.in-If.branches c.in-If.other c.in-If.is
    ∙ ap₂ (λ a b. a ++ b) (ap₂ (λ a b. a ++ b) first second) third)
    (adds_on _ _ _ _ _ c.in_ok-names_in_all-in-If.ensures c.in_ok-names_in_all-in-If-2.ensures) c.names_in-in-If.ensures
