use Rattle.std.proofs.Common.{rules, arith, refl, ◌≡◌, ◌+◌, ◌<◌, ap, ap₂, ◌∙◌, sym, suc, add-one, length, get_or, ◌∷◌, drop}
use Rattle.std.proofs.lemmas.Bool.{ltb-true}
use Rattle.std.proofs.lemmas.List.{drop_all}
use Rattle.std.proofs.Math.Seq.{drop-cons}
use Rattle.sync_values.specs.declared.value.Value.TheVariants as value
use Rattle.flat_model.specs.declared.evaluate.Vantage.TheVariants.{Left}
use Rattle.flat_model.specs.Operators.{Is, Fails, applied, chained, chain, negated, inverted, relation, chosen, read, settled}
use Rattle.flat_model.specs.Functions.{called}
use Rattle.sync_values.specs.Arithmetic.{fitted}
use Rattle.flat_model.specs.Meaning.{value_of, answers, whole_of}
use Rattle.flat_model.specs.Evaluation.{answer_of, seen_from}
use Rattle.flat_model.specs.Samples.{may_stand, all_may_stand, outside_samples}
use Rattle.flat_model.proofs.Values.{value_of-Const, value_of-Read, value_of-Chain, value_of-Relation, value_of-Neg, value_of-Not, value_of-If, value_of-Apply, value_of-Previous, value_of-FirstTick, value_of-IntervalTimes, value_of-Hold, value_of-Convert, value_of-Sample}
use Rattle.flat_model.proofs.Standings.{may_stand-Chain, may_stand-Relation, may_stand-Neg, may_stand-Not, may_stand-Apply, may_stand-Previous, may_stand-FirstTick, may_stand-IntervalTimes, may_stand-Sample}
use Rattle.flat_model.proofs.Evaluations.{chain_first, chain_first-Fails, next_present, next-Fails, applied_present, next_applied, chained_at, chained_done, standing_at, sampled, first_holds, second_holds, branch_at, chosen_true, chosen_false, If_standing, dropped_at, chained-Fails, read_present, seen_outside}
use Rattle.flat_model.proofs.Nodes.{nodes, all_nodes, nodes_within, nodes-Chain, nodes-Relation, nodes-Neg, nodes-Not, nodes-If, nodes-Apply, nodes-Sample}
use Rattle.flat_model.proofs.evaluate.+value.Goals as goal

pub chain_value-value_seen-requires : goal.chain_value-value_seen-requires
chain_value-value_seen-requires g t c κs within =
    let v = seen_from c.args.vantage (g.V.Lookup.views c.args.values.now) in
    let is = c.in-Some.ensures.cases.0 in
    let present = rw is at c.requires.present in
    let standing = rw is at c.requires.standing in
    let all : all_nodes c.args.parts.now ≡ nodes c.in-Some.first.now + all_nodes c.in-Some.rest.now = ap all_nodes is in (
      omega (arith, c.decreases, all),
      (search rules, (chain_first c.args.ops.now (value_of c.in-Some.first.now v) (answers c.in-Some.rest.now v) present, (first_holds (may_stand c.in-Some.first.now c.args.vantage) (all_may_stand c.args.vantage c.in-Some.rest.now) standing, c.requires.interval))),
    )

pub chain_value-returns-in_err-total : goal.chain_value-returns-in_err-total
chain_value-returns-in_err-total g t c =
    let v = seen_from c.args.vantage (g.V.Lookup.views c.args.values.now) in
    let kind = c.in_err-total.field-0.0 in
    let failed : answer_of c.from_residual.result ≡ Fails kind = search rules in
    let whole : chain c.args.ops.now (answers c.args.parts.now v) ≡ Fails kind =
    rw c.in-Some.ensures.cases.0 (chain_first-Fails c.args.ops.now (value_of c.in-Some.first.now v) (answers c.in-Some.rest.now v) kind (sym c.in_err-total.ensures)) in
    failed ∙ sym whole

pub chain_value-value_seen-requires-then-not-is_enough :
    goal.chain_value-value_seen-requires-then-not-is_enough
chain_value-value_seen-requires-then-not-is_enough g t c κs within =
    let v = seen_from c.args.vantage (g.V.Lookup.views c.args.values.now) in
    let i = c.loop-i.i in let ops = c.args.ops.now in let rest = c.in-Some.rest.now in
    let op = c.in-Some-get.op.now in let part = c.index-rest-i.result in
    let is = c.in-Some.ensures.cases.0 in
    let inside : i < length rest = omega (arith, c.loop-i-test.true) in
    let op_within : i < length ops = ltb-true _ _ (sym c.in-Some-get.ensures.lookup.0) in
    let op_is : op ≡ get_or ops i op = c.in-Some-get.ensures.lookup.1 in
    let turn = chained_at ops rest v c.loop-i.total i op part op_within op_is inside c.index-rest-i.is in
    let standing = rw is at c.requires.standing in
    let all : all_nodes c.args.parts.now ≡ nodes c.in-Some.first.now + all_nodes rest = ap all_nodes is in
    let few = nodes_within rest i part inside c.index-rest-i.is in (
      omega (arith, c.decreases, all, few),
      (
        search rules,
        (
          next_present op c.loop-i.total (value_of part v) (drop (suc i) ops) (answers (drop (suc i) rest) v) (sym c.if-not-is_enough.ensures) (λ absent. c.requires.present (sym c.loop-i.invariant ∙ turn ∙ absent)),
          (
            standing_at c.args.vantage rest i part (second_holds (may_stand c.in-Some.first.now c.args.vantage) (all_may_stand c.args.vantage rest) standing) inside c.index-rest-i.is,
            c.requires.interval,
          ),
        ),
      ),
    )

pub chain_value-returns-in_err-value_seen : goal.chain_value-returns-in_err-value_seen
chain_value-returns-in_err-value_seen g t c =
    let v = seen_from c.args.vantage (g.V.Lookup.views c.args.values.now) in
    let i = c.loop-i.i in let ops = c.args.ops.now in let rest = c.in-Some.rest.now in
    let op = c.in-Some-get.op.now in let part = c.index-rest-i.result in
    let kind = c.in_err-value_seen.field-0.0 in
    let op_within : i < length ops = ltb-true _ _ (sym c.in-Some-get.ensures.lookup.0) in
    let turn = chained_at ops rest v c.loop-i.total i op part op_within c.in-Some-get.ensures.lookup.1 (omega (arith, c.loop-i-test.true)) c.index-rest-i.is in
    let failed : answer_of c.from_residual-in_err-value_seen.result ≡ Fails kind = search rules in
    let fails = next-Fails op c.loop-i.total (value_of part v) (drop (suc i) ops) (answers (drop (suc i) rest) v) kind (sym c.if-not-is_enough.ensures) (sym c.in_err-value_seen.ensures) in
    failed ∙ sym (sym c.loop-i.invariant ∙ turn ∙ fails)

pub chain_value-apply-requires : goal.chain_value-apply-requires
chain_value-apply-requires g t c =
    let v = seen_from c.args.vantage (g.V.Lookup.views c.args.values.now) in
    let i = c.loop-i.i in let ops = c.args.ops.now in let rest = c.in-Some.rest.now in
    let op = c.in-Some-get.op.now in let part = c.index-rest-i.result in let w = c.in_ok-value_seen.field-0 in
    let later = drop (suc i) ops in let others = answers (drop (suc i) rest) v in
    let needed = sym c.if-not-is_enough.ensures in
    let op_within : i < length ops = ltb-true _ _ (sym c.in-Some-get.ensures.lookup.0) in
    let turn = chained_at ops rest v c.loop-i.total i op part op_within c.in-Some-get.ensures.lookup.1 (omega (arith, c.loop-i-test.true)) c.index-rest-i.is in
    applied_present op c.loop-i.total w (value_of part v) later others needed (sym c.in_ok-value_seen.ensures) (λ absent. c.requires.present (sym c.loop-i.invariant ∙ turn ∙ absent))

pub chain_value-returns-in_err-total-2 : goal.chain_value-returns-in_err-total-2
chain_value-returns-in_err-total-2 g t c =
    let v = seen_from c.args.vantage (g.V.Lookup.views c.args.values.now) in
    let i = c.loop-i.i in let ops = c.args.ops.now in let rest = c.in-Some.rest.now in
    let op = c.in-Some-get.op.now in let part = c.index-rest-i.result in let w = c.in_ok-value_seen.field-0 in
    let later = drop (suc i) ops in let others = answers (drop (suc i) rest) v in
    let needed = sym c.if-not-is_enough.ensures in
    let op_within : i < length ops = ltb-true _ _ (sym c.in-Some-get.ensures.lookup.0) in
    let turn = chained_at ops rest v c.loop-i.total i op part op_within c.in-Some-get.ensures.lookup.1 (omega (arith, c.loop-i-test.true)) c.index-rest-i.is in
    let kind = c.in_err-total-2.field-0.0 in
    let failed : answer_of c.from_residual-in_err-total-2.result ≡ Fails kind = search rules in
    let fails : applied op c.loop-i.total w ≡ Fails kind = sym c.in_err-total-2.ensures in
    let applies = next_applied op c.loop-i.total w (value_of part v) later others needed (sym c.in_ok-value_seen.ensures) in
    failed ∙ sym (sym c.loop-i.invariant ∙ turn ∙ applies ∙ ap (λ a. chained a later others) fails ∙ chained-Fails kind later others)

pub chain_value-returns-after-loop-i : goal.chain_value-returns-after-loop-i
chain_value-returns-after-loop-i g t c =
    let v = seen_from c.args.vantage (g.V.Lookup.views c.args.values.now) in
    sym (chained_done (Is c.loop-i.total) (drop c.loop-i.i c.args.ops.now) c.in-Some.rest.now v c.loop-i.i c.loop-i-test.false) ∙ c.loop-i.invariant

pub value_seen-chain_value-requires : goal.value_seen-chain_value-requires
value_seen-chain_value-requires g t c κs within =
    let present = rw (c.in-Chain.is, value_of-Chain) at c.requires.present in
    let standing = rw (c.in-Chain.is, may_stand-Chain) at c.requires.standing in
    let size = ap nodes c.in-Chain.is ∙ nodes-Chain c.in-Chain.parts c.in-Chain.ops in
    let same = ap all_nodes c.as_slice.ensures in
    (omega (arith, c.decreases, size, same), (search rules, (rw (c.as_slice.ensures, c.as_slice-in-Chain.ensures) present, (rw c.as_slice.ensures standing, c.requires.interval))))

pub value_seen-value_seen-requires : goal.value_seen-value_seen-requires
value_seen-value_seen-requires g t c κs within =
    let v = seen_from c.args.vantage (g.V.Lookup.views c.args.values.now) in
    let part : c.get.result.now ≡ c.in-Relation.left = search rules in
    let present = rw (c.in-Relation.is, value_of-Relation) at c.requires.present in
    let standing = rw (c.in-Relation.is, may_stand-Relation) at c.requires.standing in
    let size = ap nodes c.in-Relation.is ∙ nodes-Relation c.in-Relation.rel c.in-Relation.left c.in-Relation.right in
    let same = ap nodes part in (
      omega (arith, c.decreases, size, same),
      (
        search rules,
        (
          rw part (λ absent. present (ap (λ a. relation c.in-Relation.rel a (value_of c.in-Relation.right v)) absent)),
          (
            rw part (first_holds (may_stand c.in-Relation.left c.args.vantage) (may_stand c.in-Relation.right c.args.vantage) standing),
            c.requires.interval,
          ),
        ),
      ),
    )

pub value_seen-value_seen-requires-in-Relation : goal.value_seen-value_seen-requires-in-Relation
value_seen-value_seen-requires-in-Relation g t c κs within =
    let v = seen_from c.args.vantage (g.V.Lookup.views c.args.values.now) in
    let left = c.in-Relation.left in let right = c.in-Relation.right in
    let part = c.get-in-Relation.ensures in
    let present = rw (c.in-Relation.is, value_of-Relation) at c.requires.present in
    let standing = rw (c.in-Relation.is, may_stand-Relation) at c.requires.standing in
    let size = ap nodes c.in-Relation.is ∙ nodes-Relation c.in-Relation.rel left right in
    let same = ap nodes part in
    let left_is : value_of left v ≡ Is c.in_ok-left-in-Relation.left = sym (c.in_ok-left-in-Relation.ensures ∙ ap (λ e. value_of e v) c.get.ensures) in (
      omega (arith, c.decreases, size, same),
      (
        search rules,
        (
          rw part (λ absent. present (ap₂ (relation c.in-Relation.rel) left_is absent)),
          (
            rw part (second_holds (may_stand left c.args.vantage) (may_stand right c.args.vantage) standing),
            c.requires.interval,
          ),
        ),
      ),
    )

pub value_seen-value_seen-requires-in-Neg : goal.value_seen-value_seen-requires-in-Neg
value_seen-value_seen-requires-in-Neg g t c κs within =
    let part : c.get-in-Neg.result.now ≡ c.in-Neg.part = search rules in
    let present = rw (c.in-Neg.is, value_of-Neg) at c.requires.present in
    let standing = rw (c.in-Neg.is, may_stand-Neg) at c.requires.standing in
    let size = ap nodes c.in-Neg.is ∙ nodes-Neg c.in-Neg.part in
    let same = ap nodes part in
    (omega (arith, c.decreases, size, same), (search rules, (rw part (λ absent. present (ap negated absent)), (rw part standing, c.requires.interval))))

pub value_seen-value_seen-requires-in-Not : goal.value_seen-value_seen-requires-in-Not
value_seen-value_seen-requires-in-Not g t c κs within =
    let part : c.get-in-Not.result.now ≡ c.in-Not.part = search rules in
    let present = rw (c.in-Not.is, value_of-Not) at c.requires.present in
    let standing = rw (c.in-Not.is, may_stand-Not) at c.requires.standing in
    let size = ap nodes c.in-Not.is ∙ nodes-Not c.in-Not.part in
    let same = ap nodes part in
    (omega (arith, c.decreases, size, same), (search rules, (rw part (λ absent. present (ap inverted absent)), (rw part standing, c.requires.interval))))

pub value_seen-call_value-requires : goal.value_seen-call_value-requires
value_seen-call_value-requires g t c κs within =
    let present = rw (c.in-Apply.is, value_of-Apply) at c.requires.present in
    let standing = rw (c.in-Apply.is, may_stand-Apply) at c.requires.standing in
    let size = ap nodes c.in-Apply.is ∙ nodes-Apply c.in-Apply.function c.in-Apply.parts in
    let same = ap all_nodes c.as_slice-in-Apply.ensures in
    (omega (arith, c.decreases, size, same), (search rules, (rw c.as_slice-in-Apply.ensures present, (rw c.as_slice-in-Apply.ensures standing, c.requires.interval))))

pub value_seen-value_seen-requires-in-Sample : goal.value_seen-value_seen-requires-in-Sample
value_seen-value_seen-requires-in-Sample g t c κs within =
    let views = g.V.Lookup.views c.args.values.now in
    let present = rw (c.in-Sample.is, value_of-Sample) at c.requires.present in
    let standing = rw (c.in-Sample.is, may_stand-Sample) at c.requires.standing in
    let outside = first_holds (outside_samples c.args.vantage) (may_stand c.in-Sample.part Left) standing in
    let inside = second_holds (outside_samples c.args.vantage) (may_stand c.in-Sample.part Left) standing in
    let size = ap nodes c.in-Sample.is ∙ nodes-Sample c.in-Sample.part c.in-Sample.field-1 in
    let same = ap nodes c.get-in-Sample.ensures in (
      omega (arith, c.decreases, size, same),
      (
        search rules,
        (
          rw c.get-in-Sample.ensures (λ absent. present (sampled c.args.vantage views c.in-Sample.part outside ∙ absent)),
          (
            rw c.get-in-Sample.ensures inside,
            c.requires.interval,
          ),
        ),
      ),
    )

-- ---- the value of a call

pub call_value-value_seen-requires : goal.call_value-value_seen-requires
call_value-value_seen-requires g t c κs within =
    let v = seen_from c.args.vantage (g.V.Lookup.views c.args.values.now) in
    let is = c.in-Some.ensures.cases.0 in
    let present = rw is at c.requires.present in
    let standing = rw is at c.requires.standing in
    let all : all_nodes c.args.parts.now ≡ nodes c.in-Some.first.now + all_nodes c.in-Some.rest.now = ap all_nodes is in (
      omega (arith, c.decreases, all),
      (search rules, ((λ absent. present (ap (λ a. called c.args.function (a ∷ answers c.in-Some.rest.now v)) absent)), (first_holds (may_stand c.in-Some.first.now c.args.vantage) (all_may_stand c.args.vantage c.in-Some.rest.now) standing, c.requires.interval))),
    )

-- ---- the value of an expression

pub value_seen-now-requires : goal.value_seen-now-requires
value_seen-now-requires g t c =
    let v = seen_from c.args.vantage (g.V.Lookup.views c.args.values.now) in
    read_present ((v 0).now c.in-Read.name) (λ absent. c.requires.present (ap (λ e. value_of e v) c.in-Read.is ∙ value_of-Read c.in-Read.name v ∙ absent))

pub value_seen-last-requires : goal.value_seen-last-requires
value_seen-last-requires g t c =
    let v = seen_from c.args.vantage (g.V.Lookup.views c.args.values.now) in
    read_present ((v 0).last c.in-Hold.name) (λ absent. c.requires.present (ap (λ e. value_of e v) c.in-Hold.is ∙ value_of-Hold c.in-Hold.name v ∙ absent))

pub value_seen-last-requires-in-Convert : goal.value_seen-last-requires-in-Convert
value_seen-last-requires-in-Convert g t c =
    let v = seen_from c.args.vantage (g.V.Lookup.views c.args.values.now) in
    read_present ((v 0).last c.in-Convert.name) (λ absent. c.requires.present (ap (λ e. value_of e v) c.in-Convert.is ∙ value_of-Convert c.in-Convert.field-0 c.in-Convert.name v ∙ absent))

pub value_seen-previous-requires : goal.value_seen-previous-requires
value_seen-previous-requires g t c =
    let views = g.V.Lookup.views c.args.values.now in
    let v = seen_from c.args.vantage views in
    let x = c.in-Previous.name in
    let outside = sym (may_stand-Previous x c.args.vantage) ∙ sym (ap (λ e. may_stand e c.args.vantage) c.in-Previous.is) ∙ c.requires.standing in
    let value_is = ap (λ e. value_of e v) c.in-Previous.is ∙ value_of-Previous x v ∙ ap (λ w. read ((w 0).previous x)) (seen_outside c.args.vantage views outside) in
    read_present ((views 0).previous x) (λ absent. c.requires.present (value_is ∙ absent))

pub value_seen-interval_times-requires : goal.value_seen-interval_times-requires
value_seen-interval_times-requires g t c = c.requires.interval

pub value_seen-returns-in-Const : goal.value_seen-returns-in-Const
value_seen-returns-in-Const g t c =
    let v = seen_from c.args.vantage (g.V.Lookup.views c.args.values.now) in
    sym (ap (λ e. value_of e v) c.in-Const.is ∙ value_of-Const c.in-Const.value v)

pub value_seen-returns-in-Read : goal.value_seen-returns-in-Read
value_seen-returns-in-Read g t c =
    let v = seen_from c.args.vantage (g.V.Lookup.views c.args.values.now) in
    sym (ap (λ e. value_of e v) c.in-Read.is ∙ value_of-Read c.in-Read.name v ∙ ap read c.now.ensures)

pub value_seen-returns-in-Hold : goal.value_seen-returns-in-Hold
value_seen-returns-in-Hold g t c =
    let v = seen_from c.args.vantage (g.V.Lookup.views c.args.values.now) in
    sym (ap (λ e. value_of e v) c.in-Hold.is ∙ value_of-Hold c.in-Hold.name v ∙ ap read c.last.ensures)

pub value_seen-returns-in-Convert : goal.value_seen-returns-in-Convert
value_seen-returns-in-Convert g t c =
    let v = seen_from c.args.vantage (g.V.Lookup.views c.args.values.now) in
    sym (ap (λ e. value_of e v) c.in-Convert.is ∙ value_of-Convert c.in-Convert.field-0 c.in-Convert.name v ∙ ap read c.last-in-Convert.ensures)

pub value_seen-returns-in-Previous : goal.value_seen-returns-in-Previous
value_seen-returns-in-Previous g t c =
    let views = g.V.Lookup.views c.args.values.now in
    let v = seen_from c.args.vantage views in
    let x = c.in-Previous.name in
    let outside = sym (may_stand-Previous x c.args.vantage) ∙ sym (ap (λ e. may_stand e c.args.vantage) c.in-Previous.is) ∙ c.requires.standing in
    sym (ap (λ e. value_of e v) c.in-Previous.is ∙ value_of-Previous x v ∙ ap (λ w. read ((w 0).previous x)) (seen_outside c.args.vantage views outside) ∙ ap read c.previous.ensures)

pub value_seen-returns-in-FirstTick : goal.value_seen-returns-in-FirstTick
value_seen-returns-in-FirstTick g t c =
    let views = g.V.Lookup.views c.args.values.now in
    let v = seen_from c.args.vantage views in
    let x = c.in-FirstTick.field-0 in
    let outside = sym (may_stand-FirstTick x c.args.vantage) ∙ sym (ap (λ e. may_stand e c.args.vantage) c.in-FirstTick.is) ∙ c.requires.standing in
    ap (λ b. Is (value.Bool b)) c.first.ensures
    ∙ sym (ap (λ e. value_of e v) c.in-FirstTick.is ∙ value_of-FirstTick x v ∙ ap (λ w. Is (value.Bool (w 0).first)) (seen_outside c.args.vantage views outside))

pub value_seen-returns-in-IntervalTimes : goal.value_seen-returns-in-IntervalTimes
value_seen-returns-in-IntervalTimes g t c =
    let views = g.V.Lookup.views c.args.values.now in
    let v = seen_from c.args.vantage views in
    let x = c.in-IntervalTimes.field-0 in let k = c.in-IntervalTimes.k in
    let outside = sym (may_stand-IntervalTimes x k c.args.vantage) ∙ sym (ap (λ e. may_stand e c.args.vantage) c.in-IntervalTimes.is) ∙ c.requires.standing in
    c.interval_times.ensures
    ∙ sym (ap (λ e. value_of e v) c.in-IntervalTimes.is ∙ value_of-IntervalTimes x k v ∙ ap (λ w. settled (fitted (whole_of (w 0).interval k))) (seen_outside c.args.vantage views outside))

pub value_seen-returns-in-Chain : goal.value_seen-returns-in-Chain
value_seen-returns-in-Chain g t c =
    let v = seen_from c.args.vantage (g.V.Lookup.views c.args.values.now) in
    c.chain_value.ensures
    ∙ ap₂ (λ os ps. chain os (answers ps v)) c.as_slice-in-Chain.ensures c.as_slice.ensures
    ∙ sym (ap (λ e. value_of e v) c.in-Chain.is ∙ value_of-Chain c.in-Chain.parts c.in-Chain.ops v)

pub value_seen-returns-in-Apply : goal.value_seen-returns-in-Apply
value_seen-returns-in-Apply g t c =
    let v = seen_from c.args.vantage (g.V.Lookup.views c.args.values.now) in
    c.call_value.ensures
    ∙ ap (λ ps. called c.in-Apply.function (answers ps v)) c.as_slice-in-Apply.ensures
    ∙ sym (ap (λ e. value_of e v) c.in-Apply.is ∙ value_of-Apply c.in-Apply.function c.in-Apply.parts v)

pub value_seen-returns-in-Sample : goal.value_seen-returns-in-Sample
value_seen-returns-in-Sample g t c =
    let views = g.V.Lookup.views c.args.values.now in
    let v = seen_from c.args.vantage views in
    let part = c.in-Sample.part in let clock = c.in-Sample.field-1 in
    let standing = sym (may_stand-Sample part clock c.args.vantage) ∙ sym (ap (λ e. may_stand e c.args.vantage) c.in-Sample.is) ∙ c.requires.standing in
    let outside = first_holds (outside_samples c.args.vantage) (may_stand part Left) standing in
    c.value_seen-in-Sample.ensures
    ∙ ap (λ e. value_of e (seen_from Left views)) c.get-in-Sample.ensures
    ∙ sym (ap (λ e. value_of e v) c.in-Sample.is ∙ value_of-Sample part clock v ∙ sampled c.args.vantage views part outside)

pub value_seen-returns-in_err-left-in-Relation : goal.value_seen-returns-in_err-left-in-Relation
value_seen-returns-in_err-left-in-Relation g t c =
    let v = seen_from c.args.vantage (g.V.Lookup.views c.args.values.now) in
    let rel = c.in-Relation.rel in let left = c.in-Relation.left in let right = c.in-Relation.right in
    let kind = c.in_err-left-in-Relation.field-0.0 in
    let failed : answer_of c.from_residual.result ≡ Fails kind = search rules in
    let first = c.in_err-left-in-Relation.ensures ∙ ap (λ e. value_of e v) c.get.ensures in
    failed ∙ ap (λ a. relation rel a (value_of right v)) first ∙ sym (ap (λ e. value_of e v) c.in-Relation.is ∙ value_of-Relation rel left right v)

pub value_seen-returns-in_err-right-in-Relation : goal.value_seen-returns-in_err-right-in-Relation
value_seen-returns-in_err-right-in-Relation g t c =
    let v = seen_from c.args.vantage (g.V.Lookup.views c.args.values.now) in
    let rel = c.in-Relation.rel in let left = c.in-Relation.left in let right = c.in-Relation.right in
    let kind = c.in_err-right-in-Relation.field-0.0 in
    let failed : answer_of c.from_residual-in_err-right-in-Relation.result ≡ Fails kind = search rules in
    let first = c.in_ok-left-in-Relation.ensures ∙ ap (λ e. value_of e v) c.get.ensures in
    let second = c.in_err-right-in-Relation.ensures ∙ ap (λ e. value_of e v) c.get-in-Relation.ensures in
    failed ∙ ap₂ (relation rel) first second ∙ sym (ap (λ e. value_of e v) c.in-Relation.is ∙ value_of-Relation rel left right v)

pub value_seen-compare-requires : goal.value_seen-compare-requires
value_seen-compare-requires g t c absent =
    let v = seen_from c.args.vantage (g.V.Lookup.views c.args.values.now) in
    let rel = c.in-Relation.rel in let left = c.in-Relation.left in let right = c.in-Relation.right in
    let first = c.in_ok-left-in-Relation.ensures ∙ ap (λ e. value_of e v) c.get.ensures in
    let second = c.in_ok-right-in-Relation.ensures ∙ ap (λ e. value_of e v) c.get-in-Relation.ensures in
    c.requires.present (ap (λ e. value_of e v) c.in-Relation.is ∙ value_of-Relation rel left right v ∙ sym (ap₂ (relation rel) first second) ∙ absent)

pub value_seen-returns-in_ok-right-in-Relation : goal.value_seen-returns-in_ok-right-in-Relation
value_seen-returns-in_ok-right-in-Relation g t c =
    let v = seen_from c.args.vantage (g.V.Lookup.views c.args.values.now) in
    let rel = c.in-Relation.rel in let left = c.in-Relation.left in let right = c.in-Relation.right in
    let first = c.in_ok-left-in-Relation.ensures ∙ ap (λ e. value_of e v) c.get.ensures in
    let second = c.in_ok-right-in-Relation.ensures ∙ ap (λ e. value_of e v) c.get-in-Relation.ensures in
    c.compare.ensures ∙ ap₂ (relation rel) first second ∙ sym (ap (λ e. value_of e v) c.in-Relation.is ∙ value_of-Relation rel left right v)

pub value_seen-negate-requires : goal.value_seen-negate-requires
value_seen-negate-requires g t c absent =
    let v = seen_from c.args.vantage (g.V.Lookup.views c.args.values.now) in
    let part = c.value_seen-in-Neg.ensures ∙ ap (λ e. value_of e v) c.get-in-Neg.ensures in
    c.requires.present (ap (λ e. value_of e v) c.in-Neg.is ∙ value_of-Neg c.in-Neg.part v ∙ sym (ap negated part) ∙ absent)

pub value_seen-returns-in-Neg : goal.value_seen-returns-in-Neg
value_seen-returns-in-Neg g t c =
    let v = seen_from c.args.vantage (g.V.Lookup.views c.args.values.now) in
    let part = c.value_seen-in-Neg.ensures ∙ ap (λ e. value_of e v) c.get-in-Neg.ensures in
    c.negate.ensures ∙ ap negated part ∙ sym (ap (λ e. value_of e v) c.in-Neg.is ∙ value_of-Neg c.in-Neg.part v)

pub value_seen-invert-requires : goal.value_seen-invert-requires
value_seen-invert-requires g t c absent =
    let v = seen_from c.args.vantage (g.V.Lookup.views c.args.values.now) in
    let part = c.value_seen-in-Not.ensures ∙ ap (λ e. value_of e v) c.get-in-Not.ensures in
    c.requires.present (ap (λ e. value_of e v) c.in-Not.is ∙ value_of-Not c.in-Not.part v ∙ sym (ap inverted part) ∙ absent)

pub value_seen-returns-in-Not : goal.value_seen-returns-in-Not
value_seen-returns-in-Not g t c =
    let v = seen_from c.args.vantage (g.V.Lookup.views c.args.values.now) in
    let part = c.value_seen-in-Not.ensures ∙ ap (λ e. value_of e v) c.get-in-Not.ensures in
    c.invert.ensures ∙ ap inverted part ∙ sym (ap (λ e. value_of e v) c.in-Not.is ∙ value_of-Not c.in-Not.part v)

pub value_seen-choice_value-requires : goal.value_seen-choice_value-requires
value_seen-choice_value-requires g t c κs within =
    let v = seen_from c.args.vantage (g.V.Lookup.views c.args.values.now) in
    let standing = If_standing c.args.vantage c.args.expr.now c.in-If.conditions c.in-If.branches c.in-If.other c.in-If.is c.requires.standing in
    let size = ap nodes c.in-If.is ∙ nodes-If c.in-If.conditions c.in-If.branches c.in-If.other in
    let conditions = ap all_nodes c.as_slice-in-If.ensures in
    let branches = ap all_nodes c.as_slice-in-If-2.ensures in
    let other = ap nodes c.get-in-If.ensures in
    let whole = ap (λ e. value_of e v) c.in-If.is ∙ value_of-If c.in-If.conditions c.in-If.branches c.in-If.other v in (
      omega (arith, c.decreases, size, conditions, branches, other),
      (
        search rules,
        (
          rw (c.as_slice-in-If.ensures, c.as_slice-in-If-2.ensures, c.get-in-If.ensures) (λ absent. c.requires.present (whole ∙ absent)),
          (
            rw c.as_slice-in-If.ensures standing.0,
            (rw c.as_slice-in-If-2.ensures standing.1, (rw c.get-in-If.ensures standing.2, c.requires.interval)),
          ),
        ),
      ),
    )

pub value_seen-returns-in-If : goal.value_seen-returns-in-If
value_seen-returns-in-If g t c =
    let v = seen_from c.args.vantage (g.V.Lookup.views c.args.values.now) in
    rw (c.as_slice-in-If.ensures, c.as_slice-in-If-2.ensures, c.get-in-If.ensures) at c.choice_value.ensures
    ∙ sym (ap (λ e. value_of e v) c.in-If.is ∙ value_of-If c.in-If.conditions c.in-If.branches c.in-If.other v)

-- ---- the value of a choice

pub choice_value-loop-i-init : goal.choice_value-loop-i-init
choice_value-loop-i-init g t c = refl

pub choice_value-bounds-conditions-i : goal.choice_value-bounds-conditions-i
choice_value-bounds-conditions-i g t c = omega (arith, c.loop-i-test.true)

pub choice_value-loop-i-smaller : goal.choice_value-loop-i-smaller
choice_value-loop-i-smaller g t c = omega (arith, c.loop-i-test.true)

pub choice_value-value_seen-requires : goal.choice_value-value_seen-requires
choice_value-value_seen-requires g t c κs within =
    let v = seen_from c.args.vantage (g.V.Lookup.views c.args.values.now) in
    let i = c.loop-i.i in let conditions = c.args.conditions.now in let branches = c.args.branches.now in
    let other = value_of c.args.other.now v in let condition = c.index-conditions-i.result in
    let inside : i < length conditions = omega (arith, c.loop-i-test.true) in
    let later = answers (drop (suc i) conditions) v in
    let turn : chosen (value_of condition v ∷ later) (answers (drop i branches) v) other ≡ chosen (answers conditions v) (answers branches v) other =
    sym (ap (λ cs. chosen (answers cs v) (answers (drop i branches) v) other) (dropped_at conditions i condition inside c.index-conditions-i.is)) ∙ c.loop-i.invariant in
    let few = nodes_within conditions i condition inside c.index-conditions-i.is in (
      omega (arith, c.decreases, few),
      (
        search rules,
        (
          (λ absent. c.requires.present (sym turn ∙ ap (λ a. chosen (a ∷ later) (answers (drop i branches) v) other) absent)),
          (standing_at c.args.vantage conditions i condition c.requires.conditions inside c.index-conditions-i.is, c.requires.interval),
        ),
      ),
    )

pub choice_value-returns-in_err-holds : goal.choice_value-returns-in_err-holds
choice_value-returns-in_err-holds g t c =
    let v = seen_from c.args.vantage (g.V.Lookup.views c.args.values.now) in
    let i = c.loop-i.i in let conditions = c.args.conditions.now in let branches = c.args.branches.now in
    let other = value_of c.args.other.now v in let condition = c.index-conditions-i.result in
    let inside : i < length conditions = omega (arith, c.loop-i-test.true) in
    let later = answers (drop (suc i) conditions) v in
    let turn : chosen (value_of condition v ∷ later) (answers (drop i branches) v) other ≡ chosen (answers conditions v) (answers branches v) other =
    sym (ap (λ cs. chosen (answers cs v) (answers (drop i branches) v) other) (dropped_at conditions i condition inside c.index-conditions-i.is)) ∙ c.loop-i.invariant in
    let kind = c.in_err-holds.field-0.0 in
    let failed : answer_of c.from_residual.result ≡ Fails kind = search rules in
    failed ∙ ap (λ a. chosen (a ∷ later) (answers (drop i branches) v) other) c.in_err-holds.ensures ∙ turn

pub choice_value-bounds-branches-i : goal.choice_value-bounds-branches-i
choice_value-bounds-branches-i g t c =
    let v = seen_from c.args.vantage (g.V.Lookup.views c.args.values.now) in
    let i = c.loop-i.i in let conditions = c.args.conditions.now in let branches = c.args.branches.now in
    let other = value_of c.args.other.now v in let condition = c.index-conditions-i.result in
    let inside : i < length conditions = omega (arith, c.loop-i-test.true) in
    let later = answers (drop (suc i) conditions) v in
    let turn : chosen (value_of condition v ∷ later) (answers (drop i branches) v) other ≡ chosen (answers conditions v) (answers branches v) other =
    sym (ap (λ cs. chosen (answers cs v) (answers (drop i branches) v) other) (dropped_at conditions i condition inside c.index-conditions-i.is)) ∙ c.loop-i.invariant in
    let holds = c.in-Bool.holds in
    let is_bool : Is (value.Bool holds) ≡ value_of condition v = sym (ap Is c.in-Bool.is) ∙ c.in_ok-holds.ensures in
    let from : chosen (Is (value.Bool holds) ∷ later) (answers (drop i branches) v) other ≡ chosen (answers conditions v) (answers branches v) other =
    ap (λ a. chosen (a ∷ later) (answers (drop i branches) v) other) is_bool ∙ turn in
    let some = branch_at holds later branches i other v (λ absent. c.requires.present (sym from ∙ absent)) in
    some

pub choice_value-value_seen-requires-then-holds : goal.choice_value-value_seen-requires-then-holds
choice_value-value_seen-requires-then-holds g t c κs within =
    let v = seen_from c.args.vantage (g.V.Lookup.views c.args.values.now) in
    let i = c.loop-i.i in let conditions = c.args.conditions.now in let branches = c.args.branches.now in
    let other = value_of c.args.other.now v in let condition = c.index-conditions-i.result in
    let inside : i < length conditions = omega (arith, c.loop-i-test.true) in
    let later = answers (drop (suc i) conditions) v in
    let turn : chosen (value_of condition v ∷ later) (answers (drop i branches) v) other ≡ chosen (answers conditions v) (answers branches v) other =
    sym (ap (λ cs. chosen (answers cs v) (answers (drop i branches) v) other) (dropped_at conditions i condition inside c.index-conditions-i.is)) ∙ c.loop-i.invariant in
    let holds = c.in-Bool.holds in
    let is_bool : Is (value.Bool holds) ≡ value_of condition v = sym (ap Is c.in-Bool.is) ∙ c.in_ok-holds.ensures in
    let from : chosen (Is (value.Bool holds) ∷ later) (answers (drop i branches) v) other ≡ chosen (answers conditions v) (answers branches v) other =
    ap (λ a. chosen (a ∷ later) (answers (drop i branches) v) other) is_bool ∙ turn in
    let some = branch_at holds later branches i other v (λ absent. c.requires.present (sym from ∙ absent)) in
    let branch = c.index-branches-i.result in
    let taken : value_of branch v ≡ chosen (answers conditions v) (answers branches v) other =
    sym (chosen_true holds later (value_of branch v) (answers (drop (suc i) branches) v) other c.if-holds.true)
    ∙ sym (ap (λ bs. chosen (Is (value.Bool holds) ∷ later) (answers bs v) other) (dropped_at branches i branch some c.index-branches-i.is)) ∙ from in
    let few = nodes_within branches i branch some c.index-branches-i.is in (
      omega (arith, c.decreases, few),
      (
        search rules,
        (
          (λ absent. c.requires.present (sym taken ∙ absent)),
          (standing_at c.args.vantage branches i branch c.requires.branches some c.index-branches-i.is, c.requires.interval),
        ),
      ),
    )

pub choice_value-returns-then-holds : goal.choice_value-returns-then-holds
choice_value-returns-then-holds g t c =
    let v = seen_from c.args.vantage (g.V.Lookup.views c.args.values.now) in
    let i = c.loop-i.i in let conditions = c.args.conditions.now in let branches = c.args.branches.now in
    let other = value_of c.args.other.now v in let condition = c.index-conditions-i.result in
    let inside : i < length conditions = omega (arith, c.loop-i-test.true) in
    let later = answers (drop (suc i) conditions) v in
    let turn : chosen (value_of condition v ∷ later) (answers (drop i branches) v) other ≡ chosen (answers conditions v) (answers branches v) other =
    sym (ap (λ cs. chosen (answers cs v) (answers (drop i branches) v) other) (dropped_at conditions i condition inside c.index-conditions-i.is)) ∙ c.loop-i.invariant in
    let holds = c.in-Bool.holds in
    let is_bool : Is (value.Bool holds) ≡ value_of condition v = sym (ap Is c.in-Bool.is) ∙ c.in_ok-holds.ensures in
    let from : chosen (Is (value.Bool holds) ∷ later) (answers (drop i branches) v) other ≡ chosen (answers conditions v) (answers branches v) other =
    ap (λ a. chosen (a ∷ later) (answers (drop i branches) v) other) is_bool ∙ turn in
    let some = branch_at holds later branches i other v (λ absent. c.requires.present (sym from ∙ absent)) in
    let branch = c.index-branches-i.result in
    let taken : value_of branch v ≡ chosen (answers conditions v) (answers branches v) other =
    sym (chosen_true holds later (value_of branch v) (answers (drop (suc i) branches) v) other c.if-holds.true)
    ∙ sym (ap (λ bs. chosen (Is (value.Bool holds) ∷ later) (answers bs v) other) (dropped_at branches i branch some c.index-branches-i.is)) ∙ from in
    c.value_seen-then-holds.ensures ∙ taken

pub choice_value-loop-i-preserved : goal.choice_value-loop-i-preserved
choice_value-loop-i-preserved g t c =
    let v = seen_from c.args.vantage (g.V.Lookup.views c.args.values.now) in
    let i = c.loop-i.i in let conditions = c.args.conditions.now in let branches = c.args.branches.now in
    let other = value_of c.args.other.now v in let condition = c.index-conditions-i.result in
    let inside : i < length conditions = omega (arith, c.loop-i-test.true) in
    let later = answers (drop (suc i) conditions) v in
    let turn : chosen (value_of condition v ∷ later) (answers (drop i branches) v) other ≡ chosen (answers conditions v) (answers branches v) other =
    sym (ap (λ cs. chosen (answers cs v) (answers (drop i branches) v) other) (dropped_at conditions i condition inside c.index-conditions-i.is)) ∙ c.loop-i.invariant in
    let holds = c.in-Bool.holds in
    let is_bool : Is (value.Bool holds) ≡ value_of condition v = sym (ap Is c.in-Bool.is) ∙ c.in_ok-holds.ensures in
    let from : chosen (Is (value.Bool holds) ∷ later) (answers (drop i branches) v) other ≡ chosen (answers conditions v) (answers branches v) other =
    ap (λ a. chosen (a ∷ later) (answers (drop i branches) v) other) is_bool ∙ turn in
    let some = branch_at holds later branches i other v (λ absent. c.requires.present (sym from ∙ absent)) in
    let passed : chosen later (answers (drop (suc i) branches) v) other ≡ chosen (answers conditions v) (answers branches v) other =
    sym (chosen_false holds later (value_of (get_or branches i condition) v) (answers (drop (suc i) branches) v) other c.if-holds.false)
    ∙ sym (ap (λ bs. chosen (Is (value.Bool holds) ∷ later) (answers bs v) other) (drop-cons branches i condition some)) ∙ from in
    rw add-one passed

pub choice_value-value_seen-requires-2 : goal.choice_value-value_seen-requires-2
choice_value-value_seen-requires-2 g t c κs within =
    let v = seen_from c.args.vantage (g.V.Lookup.views c.args.values.now) in
    let i = c.loop-i.i in
    let left : value_of c.args.other.now v ≡ chosen (answers c.args.conditions.now v) (answers c.args.branches.now v) (value_of c.args.other.now v) =
    sym (ap (λ cs. chosen (answers cs v) (answers (drop i c.args.branches.now) v) (value_of c.args.other.now v)) (drop_all i c.args.conditions.now c.loop-i-test.false)) ∙ c.loop-i.invariant in
    (omega (arith, c.decreases), (search rules, ((λ absent. c.requires.present (sym left ∙ absent)), (c.requires.other, c.requires.interval))))

pub choice_value-returns : goal.choice_value-returns
choice_value-returns g t c =
    let v = seen_from c.args.vantage (g.V.Lookup.views c.args.values.now) in
    let i = c.loop-i.i in
    c.value_seen-2.ensures
    ∙ sym (ap (λ cs. chosen (answers cs v) (answers (drop i c.args.branches.now) v) (value_of c.args.other.now v)) (drop_all i c.args.conditions.now c.loop-i-test.false)) ∙ c.loop-i.invariant
