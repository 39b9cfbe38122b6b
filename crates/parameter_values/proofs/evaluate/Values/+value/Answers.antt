use Rattle.std.proofs.Common.{◌∙◌, ap, ap₂, sym, map}
use Rattle.parameter_values.specs.Values.{function_named}
use Rattle.parameter_values.specs.Outcomes.{outcome, called_outcome_by, chain_outcome, related_outcome, negated_outcome, inverted_outcome, chosen_outcome}
use Rattle.parameter_values.proofs.OutcomeNodes.{told-Const, told-Name, told-Call, told-Chain, told-Relation, told-Neg, told-Not, told-Power, told-If}
use Rattle.parameter_values.proofs.evaluate.Values.+value.Goals as goal

pub outcome-returns-in-Const : goal.outcome-returns-in-Const
outcome-returns-in-Const t c = sym (told-Const c.args.self.now.text.now c.args.self.now.numbers.now c.args.self.now.slots.now c.args.scope.now c.args.expr.now c.in-Const.value c.in-Const.is)

pub outcome-returns-in-Power : goal.outcome-returns-in-Power
outcome-returns-in-Power t c =
    sym (told-Power c.args.self.now.text.now c.args.self.now.numbers.now c.args.self.now.slots.now c.args.scope.now c.args.expr.now c.in-Power.field-0 c.in-Power.field-1 c.in-Power.is)

pub outcome-returns-in-Name : goal.outcome-returns-in-Name
outcome-returns-in-Name t c =
    rw (told-Name c.args.self.now.text.now c.args.self.now.numbers.now c.args.self.now.slots.now c.args.scope.now c.args.expr.now c.in-Name.path c.in-Name.is) c.name.ensures

pub outcome-returns-in_ok-outcome-in-Neg : goal.outcome-returns-in_ok-outcome-in-Neg
outcome-returns-in_ok-outcome-in-Neg t c =
    let told = outcome c.args.self.now.text.now c.args.self.now.numbers.now c.args.self.now.slots.now c.args.scope.now in
    c.negated_outcome.ensures ∙ ap negated_outcome (c.in_ok-outcome-in-Neg.ensures ∙ ap told c.get-in-Neg.ensures)
    ∙ sym (told-Neg c.args.self.now.text.now c.args.self.now.numbers.now c.args.self.now.slots.now c.args.scope.now c.args.expr.now c.in-Neg.part c.in-Neg.is)

pub outcome-returns-in_ok-outcome-in-Not : goal.outcome-returns-in_ok-outcome-in-Not
outcome-returns-in_ok-outcome-in-Not t c =
    let told = outcome c.args.self.now.text.now c.args.self.now.numbers.now c.args.self.now.slots.now c.args.scope.now in
    c.inverted_outcome.ensures ∙ ap inverted_outcome (c.in_ok-outcome-in-Not.ensures ∙ ap told c.get-in-Not.ensures)
    ∙ sym (told-Not c.args.self.now.text.now c.args.self.now.numbers.now c.args.self.now.slots.now c.args.scope.now c.args.expr.now c.in-Not.part c.in-Not.is)

pub outcome-returns-in_ok-right-in-Relation : goal.outcome-returns-in_ok-right-in-Relation
outcome-returns-in_ok-right-in-Relation t c =
    let told = outcome c.args.self.now.text.now c.args.self.now.numbers.now c.args.self.now.slots.now c.args.scope.now in
    c.related_outcome.ensures
    ∙ ap₂ (related_outcome c.in-Relation.rel) (c.in_ok-left-in-Relation.ensures ∙ ap told c.get.ensures) (c.in_ok-right-in-Relation.ensures ∙ ap told c.get-in-Relation.ensures)
    ∙ sym (told-Relation c.args.self.now.text.now c.args.self.now.numbers.now c.args.self.now.slots.now c.args.scope.now c.args.expr.now c.in-Relation.rel c.in-Relation.left c.in-Relation.right c.in-Relation.is)

pub outcome-returns-in_ok-parts-in-Chain : goal.outcome-returns-in_ok-parts-in-Chain
outcome-returns-in_ok-parts-in-Chain t c =
    let told = outcome c.args.self.now.text.now c.args.self.now.numbers.now c.args.self.now.slots.now c.args.scope.now in
    c.chain_outcome.ensures
    ∙ ap₂ chain_outcome c.as_slice-in-Chain-2.ensures (c.as_slice-in-Chain-3.ensures.value ∙ c.in_ok-parts-in-Chain.ensures ∙ ap (map told) c.as_slice-in-Chain.ensures)
    ∙ sym (told-Chain c.args.self.now.text.now c.args.self.now.numbers.now c.args.self.now.slots.now c.args.scope.now c.args.expr.now c.in-Chain.parts c.in-Chain.ops c.in-Chain.is)

pub outcome-returns-in_ok-parts-in-Call : goal.outcome-returns-in_ok-parts-in-Call
outcome-returns-in_ok-parts-in-Call t c =
    let told = outcome c.args.self.now.text.now c.args.self.now.numbers.now c.args.self.now.slots.now c.args.scope.now in
    c.called_outcome.ensures
    ∙ ap₂ called_outcome_by (c.function_named.ensures ∙ ap function_named (c.as_slice-in-Call.ensures.value ∙ c.in_ok-name-in-Call.ensures))
    (c.as_slice-in-Call-2.ensures.value ∙ c.in_ok-parts-in-Call.ensures ∙ ap (map told) c.as_slice.ensures)
    ∙ sym (told-Call c.args.self.now.text.now c.args.self.now.numbers.now c.args.self.now.slots.now c.args.scope.now c.args.expr.now c.in-Call.path c.in-Call.parts c.in-Call.is)

pub outcome-returns-in_ok-other-in-If : goal.outcome-returns-in_ok-other-in-If
outcome-returns-in_ok-other-in-If t c =
    let told = outcome c.args.self.now.text.now c.args.self.now.numbers.now c.args.self.now.slots.now c.args.scope.now in
    let conditions = c.as_slice-in-If-3.ensures.value ∙ c.in_ok-conditions-in-If.ensures ∙ ap (map told) c.as_slice-in-If.ensures in
    let branches = c.as_slice-in-If-4.ensures.value ∙ c.in_ok-branches-in-If.ensures ∙ ap (map told) c.as_slice-in-If-2.ensures in
    let other = c.in_ok-other-in-If.ensures ∙ ap told c.get-in-If.ensures in
    c.chosen_outcome.ensures ∙ ap (λ z. chosen_outcome z c.as_slice-in-If-4.result.now c.in_ok-other-in-If.other) conditions
    ∙ ap₂ (chosen_outcome (map told c.in-If.conditions)) branches other
    ∙ sym (told-If c.args.self.now.text.now c.args.self.now.numbers.now c.args.self.now.slots.now c.args.scope.now c.args.expr.now c.in-If.conditions c.in-If.branches c.in-If.other c.in-If.is)
