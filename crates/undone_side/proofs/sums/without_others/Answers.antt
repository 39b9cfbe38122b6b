use Rattle.std.proofs.Common.{rules, ◌≡◌, ap₂, subst, sym, ◌∙◌, ◌++◌, ◌∷◌, [], length}
use Rattle.std.proofs.lemmas.Result.{IfOk-weaker}
use Rattle.std.proofs.lemmas.List.{take-append-drop}
use Rattle.undone_side.specs.Undone.{without_front}
use Rattle.undone_side.specs.private.Steps.{LeadsTo}
use Rattle.undone_side.proofs.Leading.{leads_first, leads_later}
use Rattle.undone_side.proofs.sums.without_others.Goals as goal

pub returns-in_ok-one-in-Some : goal.returns-in_ok-one-in-Some
returns-in_ok-one-in-Some c =
    let before = c.split_at.result.0.now in let behind = c.split_at.result.1.now in
    let ops = c.args.ops.now in let front = c.args.front.now in let back = c.args.back.now in
    let parts : before ++ behind ≡ ops = ap₂ (λ a b. a ++ b) c.split_at.ensures.front c.split_at.ensures.back ∙ take-append-drop _ ops in
    let same : length before ≡ length front = search rules in
    let last : before ≡ c.in-Some.ahead.now ++ c.in-Some.op.now ∷ [] = c.in-Some.ensures.cases.0 in
    IfOk-weaker c.without_front.result _ (LeadsTo c.args.whole front ops back)
    (λ rest rest_is. subst (LeadsTo c.args.whole front ops back) (sym (rest_is ∙ ap₂ (without_front c.in-Some.op.now) c.in_ok-one-in-Some.ensures c.in_ok-rest.ensures))
    (leads_later c.args.whole front ops before c.in-Some.op.now c.in-Some.ahead.now behind back c.requires parts same last))
    c.without_front.ensures

pub returns-in-None : goal.returns-in-None
returns-in-None c =
    let before = c.split_at.result.0.now in let behind = c.split_at.result.1.now in
    let ops = c.args.ops.now in let front = c.args.front.now in let back = c.args.back.now in
    let parts : before ++ behind ≡ ops = ap₂ (λ a b. a ++ b) c.split_at.ensures.front c.split_at.ensures.back ∙ take-append-drop _ ops in
    let same : length before ≡ length front = search rules in
    let none : length before ≡ 0 = c.in-None.ensures.cases in
    subst (LeadsTo c.args.whole front ops back) (sym c.in_ok-rest.ensures) (leads_first c.args.whole front ops before behind back c.requires parts same none)
