use Rattle.std.proofs.Common.{rules, arith, ◌≡◌, Ok, Err, ap, ap₂, sym, subst, ◌∙◌, ◌∷◌, ◌++◌}
use Rattle.flat_model.specs.declared.expression.Expr.TheVariants.{Chain}
use Rattle.flat_model.specs.Meaning.{answers}
use Rattle.flat_model.proofs.Nodes.{nodes, nodes-Neg, nodes-Not, nodes-Chain}
use Rattle.eq_orient.specs.Solving.{ArePresent}
use Rattle.eq_orient.specs.private.Undoing.{AreValues, Checks, IsOnWay, beside, front_of}
use Rattle.eq_orient.proofs.Descent.{on_Neg, on_Not, beside-Neg, beside-Not, split_way}
use Rattle.eq_orient.proofs.Down.{all_nodes_append}
use Rattle.eq_orient.proofs.Checking.{checks-Read, checks-Neg, checks-Not, present_split, front_out, part_out, back_out}
use Rattle.eq_orient.proofs.solving.+check_beside.Goals as goal

pub returns-in-Read : goal.returns-in-Read
returns-in-Read g t c =
    let v = g.V.Lookup.views c.args.values.now in
    subst (λ e. Checks c.args.name e v (Ok tt)) (sym c.in-Read.is) (checks-Read c.args.name v c.in-Read.field-0)

pub check_beside-requires : goal.check_beside-requires
check_beside-requires g t c κs within =
    let v = g.V.Lookup.views c.args.values.now in
    let x = c.args.name in
    let part : c.get.result.now ≡ c.in-Neg.part = search rules in
    let same = ap nodes part in
    let size = ap nodes c.in-Neg.is ∙ nodes-Neg c.in-Neg.part in (
      omega (arith, c.decreases, same, size),
      (
        search rules,
        (
          subst (IsOnWay x) (sym part) (on_Neg x c.in-Neg.part (subst (IsOnWay x) c.in-Neg.is c.requires.way)),
          (
            subst (λ p. ArePresent (beside x p v)) (sym part) (subst ArePresent (beside-Neg x c.in-Neg.part v) (subst (λ p. ArePresent (beside x p v)) c.in-Neg.is c.requires.present)),
            c.requires.interval,
          ),
        ),
      ),
    )

pub returns-in-Neg : goal.returns-in-Neg
returns-in-Neg g t c =
    let v = g.V.Lookup.views c.args.values.now in
    let x = c.args.name in
    let part : c.get.result.now ≡ c.in-Neg.part = search rules in
    let r = c.check_beside.result in
    subst (λ e. Checks x e v r) (sym c.in-Neg.is) (checks-Neg x v c.in-Neg.part r (subst (λ p. Checks x p v r) part c.check_beside.ensures))

pub check_beside-requires-in-Not : goal.check_beside-requires-in-Not
check_beside-requires-in-Not g t c κs within =
    let v = g.V.Lookup.views c.args.values.now in
    let x = c.args.name in
    let part : c.get-in-Not.result.now ≡ c.in-Not.part = search rules in
    let same = ap nodes part in
    let size = ap nodes c.in-Not.is ∙ nodes-Not c.in-Not.part in (
      omega (arith, c.decreases, same, size),
      (
        search rules,
        (
          subst (IsOnWay x) (sym part) (on_Not x c.in-Not.part (subst (IsOnWay x) c.in-Not.is c.requires.way)),
          (
            subst (λ p. ArePresent (beside x p v)) (sym part) (subst ArePresent (beside-Not x c.in-Not.part v) (subst (λ p. ArePresent (beside x p v)) c.in-Not.is c.requires.present)),
            c.requires.interval,
          ),
        ),
      ),
    )

pub returns-in-Not : goal.returns-in-Not
returns-in-Not g t c =
    let v = g.V.Lookup.views c.args.values.now in
    let x = c.args.name in
    let part : c.get-in-Not.result.now ≡ c.in-Not.part = search rules in
    let r = c.check_beside-in-Not.result in
    subst (λ e. Checks x e v r) (sym c.in-Not.is) (checks-Not x v c.in-Not.part r (subst (λ p. Checks x p v r) part c.check_beside-in-Not.ensures))

pub check_front-requires-clause-present : goal.check_front-requires-clause-present
check_front-requires-clause-present g t c =
    let v = g.V.Lookup.views c.args.values.now in
    let x = c.args.name in
    let front = c.around.result.0.now in let part = c.around.result.1.now in let back = c.around.result.2.now in
    let ops = c.as_slice-in-Chain.result.now in
    let parts_is : c.as_slice.result.now ≡ c.in-Chain.parts = search rules in
    let ops_is : ops ≡ c.in-Chain.ops = search rules in
    let is : c.args.expr.now ≡ Chain (front ++ part ∷ back) ops = c.in-Chain.is ∙ ap₂ Chain (sym parts_is ∙ c.around.ensures.split) (sym ops_is) in
    let split = split_way x front part back ops (subst (IsOnWay x) is c.requires.way) c.around.ensures.reached in
    let here = subst (λ p. ArePresent (beside x p v)) is c.requires.present in
    let all = present_split x v front part back ops split here in
    all.0

pub check_front-requires-clause-plain : goal.check_front-requires-clause-plain
check_front-requires-clause-plain g t c =
    let v = g.V.Lookup.views c.args.values.now in
    let x = c.args.name in
    let front = c.around.result.0.now in let part = c.around.result.1.now in let back = c.around.result.2.now in
    let ops = c.as_slice-in-Chain.result.now in
    let parts_is : c.as_slice.result.now ≡ c.in-Chain.parts = search rules in
    let ops_is : ops ≡ c.in-Chain.ops = search rules in
    let is : c.args.expr.now ≡ Chain (front ++ part ∷ back) ops = c.in-Chain.is ∙ ap₂ Chain (sym parts_is ∙ c.around.ensures.split) (sym ops_is) in
    let split = split_way x front part back ops (subst (IsOnWay x) is c.requires.way) c.around.ensures.reached in
    let here = subst (λ p. ArePresent (beside x p v)) is c.requires.present in
    let all = present_split x v front part back ops split here in
    split.plain_front

pub check_all-requires-clause-present : goal.check_all-requires-clause-present
check_all-requires-clause-present g t c =
    let v = g.V.Lookup.views c.args.values.now in
    let x = c.args.name in
    let front = c.around.result.0.now in let part = c.around.result.1.now in let back = c.around.result.2.now in
    let ops = c.as_slice-in-Chain.result.now in
    let parts_is : c.as_slice.result.now ≡ c.in-Chain.parts = search rules in
    let ops_is : ops ≡ c.in-Chain.ops = search rules in
    let is : c.args.expr.now ≡ Chain (front ++ part ∷ back) ops = c.in-Chain.is ∙ ap₂ Chain (sym parts_is ∙ c.around.ensures.split) (sym ops_is) in
    let split = split_way x front part back ops (subst (IsOnWay x) is c.requires.way) c.around.ensures.reached in
    let here = subst (λ p. ArePresent (beside x p v)) is c.requires.present in
    let all = present_split x v front part back ops split here in
    all.2

pub check_all-requires-clause-plain : goal.check_all-requires-clause-plain
check_all-requires-clause-plain g t c =
    let v = g.V.Lookup.views c.args.values.now in
    let x = c.args.name in
    let front = c.around.result.0.now in let part = c.around.result.1.now in let back = c.around.result.2.now in
    let ops = c.as_slice-in-Chain.result.now in
    let parts_is : c.as_slice.result.now ≡ c.in-Chain.parts = search rules in
    let ops_is : ops ≡ c.in-Chain.ops = search rules in
    let is : c.args.expr.now ≡ Chain (front ++ part ∷ back) ops = c.in-Chain.is ∙ ap₂ Chain (sym parts_is ∙ c.around.ensures.split) (sym ops_is) in
    let split = split_way x front part back ops (subst (IsOnWay x) is c.requires.way) c.around.ensures.reached in
    let here = subst (λ p. ArePresent (beside x p v)) is c.requires.present in
    let all = present_split x v front part back ops split here in
    split.plain_back

pub check_beside-requires-in-Chain : goal.check_beside-requires-in-Chain
check_beside-requires-in-Chain g t c κs within =
    let v = g.V.Lookup.views c.args.values.now in
    let x = c.args.name in
    let front = c.around.result.0.now in let part = c.around.result.1.now in let back = c.around.result.2.now in
    let ops = c.as_slice-in-Chain.result.now in
    let parts_is : c.as_slice.result.now ≡ c.in-Chain.parts = search rules in
    let ops_is : ops ≡ c.in-Chain.ops = search rules in
    let is : c.args.expr.now ≡ Chain (front ++ part ∷ back) ops = c.in-Chain.is ∙ ap₂ Chain (sym parts_is ∙ c.around.ensures.split) (sym ops_is) in
    let split = split_way x front part back ops (subst (IsOnWay x) is c.requires.way) c.around.ensures.reached in
    let here = subst (λ p. ArePresent (beside x p v)) is c.requires.present in
    let all = present_split x v front part back ops split here in
    let size = ap nodes is ∙ nodes-Chain (front ++ part ∷ back) ops in
    let few = all_nodes_append front part back in
    (omega (arith, c.decreases, size, few), (search rules, (split.way, (all.1, c.requires.interval))))

pub returns-in-Err : goal.returns-in-Err
returns-in-Err g t c =
    let v = g.V.Lookup.views c.args.values.now in
    let x = c.args.name in
    let front = c.around.result.0.now in let part = c.around.result.1.now in let back = c.around.result.2.now in
    let ops = c.as_slice-in-Chain.result.now in
    let parts_is : c.as_slice.result.now ≡ c.in-Chain.parts = search rules in
    let ops_is : ops ≡ c.in-Chain.ops = search rules in
    let is : c.args.expr.now ≡ Chain (front ++ part ∷ back) ops = c.in-Chain.is ∙ ap₂ Chain (sym parts_is ∙ c.around.ensures.split) (sym ops_is) in
    let split = split_way x front part back ops (subst (IsOnWay x) is c.requires.way) c.around.ensures.reached in
    let here = subst (λ p. ArePresent (beside x p v)) is c.requires.present in
    let all = present_split x v front part back ops split here in
    subst (λ e. Checks x e v (Err c.in-Err.kind)) (sym is) (front_out x v front part back ops split c.in-Err.kind here c.in-Err.ensures)

pub returns-in-Err-check_beside : goal.returns-in-Err-check_beside
returns-in-Err-check_beside g t c =
    let v = g.V.Lookup.views c.args.values.now in
    let x = c.args.name in
    let front = c.around.result.0.now in let part = c.around.result.1.now in let back = c.around.result.2.now in
    let ops = c.as_slice-in-Chain.result.now in
    let parts_is : c.as_slice.result.now ≡ c.in-Chain.parts = search rules in
    let ops_is : ops ≡ c.in-Chain.ops = search rules in
    let is : c.args.expr.now ≡ Chain (front ++ part ∷ back) ops = c.in-Chain.is ∙ ap₂ Chain (sym parts_is ∙ c.around.ensures.split) (sym ops_is) in
    let split = split_way x front part back ops (subst (IsOnWay x) is c.requires.way) c.around.ensures.reached in
    let here = subst (λ p. ArePresent (beside x p v)) is c.requires.present in
    let all = present_split x v front part back ops split here in
    let valued : AreValues (front_of ops (answers front v)) = c.in-Ok.ensures in
    subst (λ e. Checks x e v (Err c.in-Err-check_beside.kind)) (sym is) (part_out x v front part back ops split c.in-Err-check_beside.kind here valued c.in-Err-check_beside.ensures)

pub returns-in-Ok-check_beside : goal.returns-in-Ok-check_beside
returns-in-Ok-check_beside g t c =
    let v = g.V.Lookup.views c.args.values.now in
    let x = c.args.name in
    let front = c.around.result.0.now in let part = c.around.result.1.now in let back = c.around.result.2.now in
    let ops = c.as_slice-in-Chain.result.now in
    let parts_is : c.as_slice.result.now ≡ c.in-Chain.parts = search rules in
    let ops_is : ops ≡ c.in-Chain.ops = search rules in
    let is : c.args.expr.now ≡ Chain (front ++ part ∷ back) ops = c.in-Chain.is ∙ ap₂ Chain (sym parts_is ∙ c.around.ensures.split) (sym ops_is) in
    let split = split_way x front part back ops (subst (IsOnWay x) is c.requires.way) c.around.ensures.reached in
    let here = subst (λ p. ArePresent (beside x p v)) is c.requires.present in
    let all = present_split x v front part back ops split here in
    let valued : AreValues (front_of ops (answers front v)) = c.in-Ok.ensures in
    subst (λ e. Checks x e v c.check_all.result) (sym is) (back_out x v front part back ops split c.check_all.result valued c.in-Ok-check_beside.ensures c.check_all.ensures)
