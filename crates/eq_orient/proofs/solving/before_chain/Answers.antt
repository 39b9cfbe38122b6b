use Rattle.std.proofs.Common.{rules, arith, ◌≡◌, ◌≢◌, ◌-◌, Ok, Err, length, drop, sym, subst}
use Rattle.std.proofs.lemmas.List.{length-map}
use Rattle.flat_model.specs.Operators.{chained}
use Rattle.flat_model.specs.Meaning.{value_of, answers}
use Rattle.eq_orient.specs.private.Undoing.{UndoneBy}
use Rattle.eq_orient.proofs.Undoing.{any_default}
use Rattle.eq_orient.proofs.Chains.{sums_drop, values_all, behind, undone_first, undone_stuck, undone_more}
use Rattle.eq_orient.proofs.solving.before_chain.Goals as goal

pub before_parts-requires-clause-sums : goal.before_parts-requires-clause-sums
before_parts-requires-clause-sums g c =
    rw (behind c.args.ops.now (length c.args.front.now)) (sums_drop c.args.ops.now (length c.args.front.now) c.requires.sums)

pub before_parts-requires-clause-values : goal.before_parts-requires-clause-values
before_parts-requires-clause-values g c = values_all c.args.back.now (g.V.Lookup.views c.args.values.now) c.requires.back

pub returns-in-Err : goal.returns-in-Err
returns-in-Err g c =
    let v = g.V.Lookup.views c.args.values.now in
    let ops = c.args.ops.now in let back = answers c.args.back.now v in let front = answers c.args.front.now v in
    let long = length-map c.args.front.now (λ it. value_of it v) in
    let undone : UndoneBy (λ a. chained a (drop (length c.args.front.now) ops) back) c.args.target (Err c.in-Err.kind) =
    subst (λ last. UndoneBy (λ a. chained a last back) c.args.target (Err c.in-Err.kind)) (behind ops (length c.args.front.now)) c.in-Err.ensures in
    undone_stuck ops back c.requires.sums front c.args.target c.in-Err.kind (omega (arith, long, c.requires.long))
    (subst (λ k. UndoneBy (λ a. chained a (drop k ops) back) c.args.target (Err c.in-Err.kind)) (sym long) undone)

pub returns-then-is_empty : goal.returns-then-is_empty
returns-then-is_empty g c =
    let v = g.V.Lookup.views c.args.values.now in
    let ops = c.args.ops.now in let back = answers c.args.back.now v in let front = answers c.args.front.now v in
    let long = length-map c.args.front.now (λ it. value_of it v) in
    let undone : UndoneBy (λ a. chained a (drop (length c.args.front.now) ops) back) c.args.target (Ok c.in-Ok.before) =
    subst (λ last. UndoneBy (λ a. chained a last back) c.args.target (Ok c.in-Ok.before)) (behind ops (length c.args.front.now)) c.in-Ok.ensures in
    let none : length c.args.front.now ≡ 0 = search rules in
    undone_first ops back c.requires.sums front c.args.target (Ok c.in-Ok.before) (omega (arith, long, none))
    (subst (λ k. UndoneBy (λ a. chained a (drop k ops) back) c.args.target (Ok c.in-Ok.before)) (sym long) undone)

pub returns : goal.returns
returns g c =
    let v = g.V.Lookup.views c.args.values.now in
    let ops = c.args.ops.now in let back = answers c.args.back.now v in let front = answers c.args.front.now v in
    let j = length c.args.front.now - 1 in
    let long = length-map c.args.front.now (λ it. value_of it v) in
    let some : length c.args.front.now ≢ 0 = search rules in
    let undone : UndoneBy (λ a. chained a (drop (length c.args.front.now) ops) back) c.args.target (Ok c.in-Ok.before) =
    subst (λ last. UndoneBy (λ a. chained a last back) c.args.target (Ok c.in-Ok.before)) (behind ops (length c.args.front.now)) c.in-Ok.ensures in
    undone_more ops back c.requires.sums front j _ c.in-Ok-eval_chain.left c.args.target c.in-Ok.before c.before_front.result
    (omega (arith, long, some)) (omega (arith, long, c.requires.long)) (any_default ops j _ _ (omega (arith, some, c.requires.long))) (sym c.in-Ok-eval_chain.ensures)
    (subst (λ k. UndoneBy (λ a. chained a (drop k ops) back) c.args.target (Ok c.in-Ok.before)) (sym long) undone) c.before_front.ensures
