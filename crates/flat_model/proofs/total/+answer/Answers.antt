use Rattle.std.proofs.Common.{rules, arith, ◌≡◌, ap, ap₂, ◌∙◌, sym, suc, add-one, drop, Some, true, false}
use Rattle.std.proofs.lemmas.Bool.{ltb-true}
use Rattle.flat_model.specs.Values.{stated, failed, truth_in, views_of}
use Rattle.flat_model.specs.Operators.{chained, negated, inverted, relation, chosen}
use Rattle.flat_model.specs.Meaning.{value_of, answers}
use Rattle.flat_model.proofs.Values.{value_of-Relation, value_of-Neg, value_of-Not}
use Rattle.flat_model.proofs.Evaluations.{chained_done, dropped_at}
use Rattle.flat_model.proofs.Totals.{dropped_same, chained_next, chosen_failed, chosen_here, chosen_later}
use Rattle.flat_model.proofs.total.+answer.Goals as goal

pub answer-returns-in-Relation : goal.answer-returns-in-Relation
answer-returns-in-Relation t c =
    let v = views_of c.args.now.now in
    let left : stated c.answer.result ≡ value_of c.in-Relation.left v = search rules in
    let right : stated c.answer-in-Relation.result ≡ value_of c.in-Relation.right v = search rules in
    c.compare_answers.ensures ∙ ap₂ (λ a b. relation c.in-Relation.rel a b) left right ∙ sym (ap (λ e. value_of e v) c.in-Relation.is ∙ value_of-Relation c.in-Relation.rel c.in-Relation.left c.in-Relation.right v)

pub answer-returns-in-Neg : goal.answer-returns-in-Neg
answer-returns-in-Neg t c =
    let v = views_of c.args.now.now in
    let part : stated c.answer-in-Neg.result ≡ value_of c.in-Neg.part v = search rules in
    c.negate_answer.ensures ∙ ap negated part ∙ sym (ap (λ e. value_of e v) c.in-Neg.is ∙ value_of-Neg c.in-Neg.part v)

pub answer-returns-in-Not : goal.answer-returns-in-Not
answer-returns-in-Not t c =
    let v = views_of c.args.now.now in
    let part : stated c.answer-in-Not.result ≡ value_of c.in-Not.part v = search rules in
    c.invert_answer.ensures ∙ ap inverted part ∙ sym (ap (λ e. value_of e v) c.in-Not.is ∙ value_of-Not c.in-Not.part v)

pub chain_answer-loop-i-preserved : goal.chain_answer-loop-i-preserved
chain_answer-loop-i-preserved t c =
    let v = views_of c.args.now.now in
    let ops = c.args.ops.now in let rest = c.in-Some.rest.now in let i = c.loop-i.i in
    let op = c.in-Some-get.op.now in let part = c.index-rest-i.result in
    let turn = chained_next ops rest v (stated c.loop-i.total) i op part (ltb-true _ _ (sym c.in-Some-get.ensures.lookup.0)) c.in-Some-get.ensures.lookup.1 (omega (arith, c.loop-i-test.true)) c.index-rest-i.is in
    ap₂ (λ j a. chained a (drop j ops) (answers (drop j rest) v)) (add-one i) c.joined_answer-total.ensures ∙ sym turn ∙ c.loop-i.invariant

pub chain_answer-returns-after-loop-i : goal.chain_answer-returns-after-loop-i
chain_answer-returns-after-loop-i t c =
    let v = views_of c.args.now.now in
    sym (chained_done (stated c.loop-i.total) (drop c.loop-i.i c.args.ops.now) c.in-Some.rest.now v c.loop-i.i c.loop-i-test.false) ∙ c.loop-i.invariant

pub answer-returns-in_default : goal.answer-returns-in_default
answer-returns-in_default t c =
    let v = views_of c.args.now.now in
    let i = c.loop-i.i in let items = c.as_slice-condition-items.result.now in let branches = c.in-If.branches in
    let here = dropped_at items i c.condition-item.result (omega (arith, c.loop-i-test.true)) c.condition-item.is in
    let gives = rw (ap (λ is. answers is v) here) at c.loop-i.invariant in
    let fails = chosen_failed (value_of c.condition-item.result v) (answers (drop (suc i) items) v) (answers (drop i branches) v) (value_of c.in-If.other v) (ap truth_in (sym c.answer-condition.ensures) ∙ sym c.in_default.ensures) in
    c.no_choice.ensures ∙ ap failed c.answer-condition.ensures ∙ sym fails ∙ gives

pub answer-returns-then-holds : goal.answer-returns-then-holds
answer-returns-then-holds t c =
    let v = views_of c.args.now.now in
    let i = c.loop-i.i in let items = c.as_slice-condition-items.result.now in let branches = c.in-If.branches in
    let other = value_of c.in-If.other v in
    let here = dropped_at items i c.condition-item.result (omega (arith, c.loop-i-test.true)) c.condition-item.is in
    let there = dropped_same c.as_slice-in-loop-i.result.now branches i c.in-Some-get.branch.now c.as_slice-in-loop-i.ensures (ltb-true _ _ (sym c.in-Some-get.ensures.lookup.0)) c.in-Some-get.ensures.lookup.1 in
    let truth : truth_in (value_of c.condition-item.result v) ≡ Some true = ap truth_in (sym c.answer-condition.ensures) ∙ sym c.in-Some.ensures ∙ ap Some c.if-holds.true in
    c.answer-then-holds.ensures
    ∙ sym (chosen_here (value_of c.condition-item.result v) (answers (drop (suc i) items) v) (value_of c.in-Some-get.branch.now v) (answers (drop (suc i) branches) v) other truth)
    ∙ sym (ap₂ (λ is bs. chosen (answers is v) (answers bs v) other) here there) ∙ c.loop-i.invariant

pub answer-loop-i-preserved : goal.answer-loop-i-preserved
answer-loop-i-preserved t c =
    let v = views_of c.args.now.now in
    let i = c.loop-i.i in let items = c.as_slice-condition-items.result.now in let branches = c.in-If.branches in
    let other = value_of c.in-If.other v in
    let here = dropped_at items i c.condition-item.result (omega (arith, c.loop-i-test.true)) c.condition-item.is in
    let there = dropped_same c.as_slice-in-loop-i.result.now branches i c.in-Some-get.branch.now c.as_slice-in-loop-i.ensures (ltb-true _ _ (sym c.in-Some-get.ensures.lookup.0)) c.in-Some-get.ensures.lookup.1 in
    let truth : truth_in (value_of c.condition-item.result v) ≡ Some false = ap truth_in (sym c.answer-condition.ensures) ∙ sym c.in-Some.ensures ∙ ap Some c.if-holds.false in
    ap (λ j. chosen (answers (drop j items) v) (answers (drop j branches) v) other) (add-one i)
    ∙ sym (chosen_later (value_of c.condition-item.result v) (answers (drop (suc i) items) v) (value_of c.in-Some-get.branch.now v) (answers (drop (suc i) branches) v) other truth)
    ∙ sym (ap₂ (λ is bs. chosen (answers is v) (answers bs v) other) here there) ∙ c.loop-i.invariant
