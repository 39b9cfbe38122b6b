use Rattle.std.proofs.Common.{rules, Some, ◌≡◌, ap, sym, subst, ◌∙◌, ◌++◌, ◌∷◌, OnOk, codes, append_assoc}
use Rattle.flat_model.specs.declared.expression.Expr.TheVariants.{Sample}
use Rattle.trace_print.specs.Printed.{expr_text, clock_text, rel_text}
use Rattle.trace_print.proofs.Joins.{chain_begins, chain_ends, list_begins, behind_three, choices_begin, sample_on}
use Rattle.trace_print.proofs.Texts.{text-Relation}
use Rattle.trace_print.proofs.expr.+text.Goals as goal

pub put_chain-loop-i-init : goal.put_chain-loop-i-init
put_chain-loop-i-init t c =
    let is : c.args.parts.now ≡ c.in-Some.first.now ∷ c.in-Some.rest.now = search rules in
    chain_begins c.args.names.now c.args.ops.now c.args.parts.now c.in-Some.first.now c.in-Some.rest.now c.lesser.result c.args.out.now.items c.put_openings.new.out.items c.put_expr.new.out.items
    is c.lesser.ensures c.in_ok-put_openings.ensures c.in_ok-put_expr.ensures

pub put_chain-returns : goal.put_chain-returns
put_chain-returns t c = chain_ends c.args.names.now c.args.ops.now c.in-Some.rest.now c.loop-i.i c.loop-i.out.items _ c.loop-i-test.false c.loop-i.invariant

pub put_list-loop-part-init : goal.put_list-loop-part-init
put_list-loop-part-init t c =
    let is : c.args.parts.now ≡ c.in-Some.first.now ∷ c.in-Some.rest.now = search rules in
    list_begins c.args.names.now c.args.parts.now c.in-Some.first.now c.in-Some.rest.now c.args.out.now.items c.put_expr.new.out.items is c.in_ok-put_expr.ensures

pub put_expr-returns-in_ok-put-in-Relation-2 : goal.put_expr-returns-in_ok-put-in-Relation-2
put_expr-returns-in_ok-put-in-Relation-2 t c =
    let names = c.args.names.now in
    let left : c.get.result.now ≡ c.in-Relation.left = search rules in
    let right : c.get-in-Relation.result.now ≡ c.in-Relation.right = search rules in
    let l = expr_text names c.in-Relation.left in
    let r = expr_text names c.in-Relation.right in
    let m = rel_text c.in-Relation.rel in
    let all = behind_three c.args.out.now.items c.put.new.out.items c.put_expr.new.out.items c.put-in-Relation.new.out.items (codes "(") l m (r ++ codes ")")
    c.in_ok-put-in-Relation.ensures (c.in_ok-put_expr-in-Relation.ensures ∙ ap (λ e. c.put.new.out.items ++ expr_text names e) left)
    (c.in_ok-put-in-Relation-2.ensures ∙ ap (λ t. c.put_expr.new.out.items ++ t) c.rel_text.ensures) in
    let whole : c.put-in-Relation.new.out.items ++ (expr_text names c.get-in-Relation.result.now ++ codes ")") ≡ c.args.out.now.items ++ expr_text names c.args.expr.now = ap (λ e. c.put-in-Relation.new.out.items ++ (expr_text names e ++ codes ")")) right ∙ all ∙ ap (λ t. c.args.out.now.items ++ t) (sym (append_assoc (codes "(" ++ l ++ m) r (codes ")"))
    ∙ sym (text-Relation names c.in-Relation.rel c.in-Relation.left c.in-Relation.right) ∙ ap (expr_text names) (sym c.in-Relation.is)) in
    subst (λ t. OnOk c.put_around.result (c.put_around.new.out.items ≡ t)) whole c.put_around.ensures

pub put_expr-loop-i-init : goal.put_expr-loop-i-init
put_expr-loop-i-init t c =
    choices_begin c.args.names.now c.args.expr.now c.in-If.other c.as_slice-condition-items.result.now c.in-If.conditions c.in-If.branches c.as_slice-word.result.now c.args.out.now.items
    c.as_slice-word.ensures c.as_slice-condition-items.ensures c.in-If.is

pub put_expr-returns-in_ok-put_expr-in-Some-clock : goal.put_expr-returns-in_ok-put_expr-in-Some-clock
put_expr-returns-in_ok-put_expr-in-Some-clock t c =
    let names = c.args.names.now in
    let out = c.args.out.now.items in
    let part = c.in-Sample.part in
    let clock = c.in-Some-clock.clock in
    let is : c.args.expr.now ≡ Sample part (Some clock) = c.in-Sample.is ∙ ap (λ field. Sample part field) c.in-Some-clock.is in
    let whole : c.put_expr-in-Some-clock.new.out.items ++ (codes ", " ++ clock_text names clock ++ codes ")") ≡ out ++ expr_text names c.args.expr.now =
    sample_on names part clock out c.put-in-Some-clock.new.out.items c.put_expr-in-Some-clock.new.out.items c.in_ok-put-in-Some-clock.ensures
    (c.in_ok-put_expr-in-Some-clock.ensures ∙ ap (λ e. c.put-in-Some-clock.new.out.items ++ expr_text names e) c.get-in-Some-clock.ensures) ∙ ap (λ e. out ++ expr_text names e) (sym is) in
    subst (λ t. OnOk c.put_second.result (c.put_second.new.out.items ≡ t)) whole c.put_second.ensures
