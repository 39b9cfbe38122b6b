use Rattle.std.proofs.Common.{rules, arith, ◌≡◌, Ok, Err, ap, ap₂, sym, subst, ◌∙◌, ◌∷◌, ◌++◌}
use Rattle.flat_model.specs.declared.expression.Expr.TheVariants.{Chain, Neg, Not}
use Rattle.flat_model.specs.Operators.{chain, negated, inverted}
use Rattle.flat_model.specs.Meaning.{answers}
use Rattle.flat_model.proofs.Nodes.{nodes, nodes-Neg, nodes-Not, nodes-Chain}
use Rattle.eq_orient.specs.private.Undoing.{Undoes, answers_by, AreValues, IsOnWay, beside}
use Rattle.eq_orient.proofs.Descent.{on_Neg, on_Not, beside-Neg, beside-Not, split_way}
use Rattle.eq_orient.proofs.Down.{at_name, down, stuck, is_Neg, is_Not, valued_split, all_nodes_append}
use Rattle.eq_orient.proofs.solving.+undo.Goals as goal

pub returns-in-Read : goal.returns-in-Read
returns-in-Read g t c =
    let v = g.V.Lookup.views c.args.values.now in
    subst (λ e. Undoes (answers_by c.args.name e v) c.args.target (Ok c.args.target)) (sym c.in-Read.is)
    (at_name c.args.name v c.in-Read.field-0 c.args.target (subst (IsOnWay c.args.name) c.in-Read.is c.requires.way) c.requires.target)

pub undo-requires : goal.undo-requires
undo-requires g t c κs within =
    let v = g.V.Lookup.views c.args.values.now in
    let x = c.args.name in
    let part : c.get.result.now ≡ c.in-Neg.part = search rules in
    let same = ap nodes part in
    let size = ap nodes c.in-Neg.is ∙ nodes-Neg c.in-Neg.part in (
      omega (arith, c.decreases, same, size),
      (
        search rules,
        (
          subst (IsOnWay x) (sym part) (on_Neg x c.in-Neg.part (subst (IsOnWay x) c.in-Neg.is c.requires.way)),
          (
            c.in-Ok.ensures.0,
            (
              subst (λ p. AreValues (beside x p v)) (sym part) (subst AreValues (beside-Neg x c.in-Neg.part v) (subst (λ p. AreValues (beside x p v)) c.in-Neg.is c.requires.beside)),
              c.requires.interval,
            ),
          ),
        ),
      ),
    )

pub returns-in-Ok : goal.returns-in-Ok
returns-in-Ok g t c =
    let v = g.V.Lookup.views c.args.values.now in
    let x = c.args.name in
    let under = on_Neg x c.in-Neg.part (subst (IsOnWay x) c.in-Neg.is c.requires.way) in
    let part : c.get.result.now ≡ c.in-Neg.part = search rules in
    let r = c.undo.result in
    subst (λ p. Undoes (answers_by x p v) c.args.target r) (sym c.in-Neg.is)
    (down x v (Neg c.in-Neg.part) c.in-Neg.part negated (is_Neg x v c.in-Neg.part) under c.args.target c.in-Ok.before r c.in-Ok.ensures
    (subst (λ p. Undoes (answers_by x p v) c.in-Ok.before r) part c.undo.ensures))

pub returns-in-Err : goal.returns-in-Err
returns-in-Err g t c =
    let v = g.V.Lookup.views c.args.values.now in
    let x = c.args.name in
    let under = on_Neg x c.in-Neg.part (subst (IsOnWay x) c.in-Neg.is c.requires.way) in
    subst (λ p. Undoes (answers_by x p v) c.args.target (Err c.in-Err.kind)) (sym c.in-Neg.is)
    (stuck x v (Neg c.in-Neg.part) c.in-Neg.part negated (is_Neg x v c.in-Neg.part) under c.args.target c.in-Err.kind c.in-Err.ensures)

pub undo-requires-in-Ok-before_not : goal.undo-requires-in-Ok-before_not
undo-requires-in-Ok-before_not g t c κs within =
    let v = g.V.Lookup.views c.args.values.now in
    let x = c.args.name in
    let part : c.get-in-Ok-before_not.result.now ≡ c.in-Not.part = search rules in
    let same = ap nodes part in
    let size = ap nodes c.in-Not.is ∙ nodes-Not c.in-Not.part in (
      omega (arith, c.decreases, same, size),
      (
        search rules,
        (
          subst (IsOnWay x) (sym part) (on_Not x c.in-Not.part (subst (IsOnWay x) c.in-Not.is c.requires.way)),
          (
            c.in-Ok-before_not.ensures.0,
            (
              subst (λ p. AreValues (beside x p v)) (sym part) (subst AreValues (beside-Not x c.in-Not.part v) (subst (λ p. AreValues (beside x p v)) c.in-Not.is c.requires.beside)),
              c.requires.interval,
            ),
          ),
        ),
      ),
    )

pub returns-in-Ok-before_not : goal.returns-in-Ok-before_not
returns-in-Ok-before_not g t c =
    let v = g.V.Lookup.views c.args.values.now in
    let x = c.args.name in
    let under = on_Not x c.in-Not.part (subst (IsOnWay x) c.in-Not.is c.requires.way) in
    let part : c.get-in-Ok-before_not.result.now ≡ c.in-Not.part = search rules in
    let r = c.undo-in-Ok-before_not.result in
    subst (λ p. Undoes (answers_by x p v) c.args.target r) (sym c.in-Not.is)
    (down x v (Not c.in-Not.part) c.in-Not.part inverted (is_Not x v c.in-Not.part) under c.args.target c.in-Ok-before_not.before r c.in-Ok-before_not.ensures
    (subst (λ p. Undoes (answers_by x p v) c.in-Ok-before_not.before r) part c.undo-in-Ok-before_not.ensures))

pub returns-in-Err-before_not : goal.returns-in-Err-before_not
returns-in-Err-before_not g t c =
    let v = g.V.Lookup.views c.args.values.now in
    let x = c.args.name in
    let under = on_Not x c.in-Not.part (subst (IsOnWay x) c.in-Not.is c.requires.way) in
    subst (λ p. Undoes (answers_by x p v) c.args.target (Err c.in-Err-before_not.kind)) (sym c.in-Not.is)
    (stuck x v (Not c.in-Not.part) c.in-Not.part inverted (is_Not x v c.in-Not.part) under c.args.target c.in-Err-before_not.kind c.in-Err-before_not.ensures)

pub before_chain-requires-clause-long : goal.before_chain-requires-clause-long
before_chain-requires-clause-long g t c =
    let v = g.V.Lookup.views c.args.values.now in
    let x = c.args.name in
    let front = c.around.result.0.now in let part = c.around.result.1.now in let back = c.around.result.2.now in
    let ops = c.as_slice-in-Chain.result.now in
    let parts_is : c.as_slice.result.now ≡ c.in-Chain.parts = search rules in
    let ops_is : ops ≡ c.in-Chain.ops = search rules in
    let is : c.args.expr.now ≡ Chain (front ++ part ∷ back) ops = c.in-Chain.is ∙ ap₂ Chain (sym parts_is ∙ c.around.ensures.split) (sym ops_is) in
    let split = split_way x front part back ops (subst (IsOnWay x) is c.requires.way) c.around.ensures.reached in
    split.long

pub before_chain-requires-clause-front : goal.before_chain-requires-clause-front
before_chain-requires-clause-front g t c =
    let v = g.V.Lookup.views c.args.values.now in
    let x = c.args.name in
    let front = c.around.result.0.now in let part = c.around.result.1.now in let back = c.around.result.2.now in
    let ops = c.as_slice-in-Chain.result.now in
    let parts_is : c.as_slice.result.now ≡ c.in-Chain.parts = search rules in
    let ops_is : ops ≡ c.in-Chain.ops = search rules in
    let is : c.args.expr.now ≡ Chain (front ++ part ∷ back) ops = c.in-Chain.is ∙ ap₂ Chain (sym parts_is ∙ c.around.ensures.split) (sym ops_is) in
    let split = split_way x front part back ops (subst (IsOnWay x) is c.requires.way) c.around.ensures.reached in
    let valued = valued_split x v front part back ops split (subst (λ p. AreValues (beside x p v)) is c.requires.beside) in
    valued.0

pub before_chain-requires-clause-back : goal.before_chain-requires-clause-back
before_chain-requires-clause-back g t c =
    let v = g.V.Lookup.views c.args.values.now in
    let x = c.args.name in
    let front = c.around.result.0.now in let part = c.around.result.1.now in let back = c.around.result.2.now in
    let ops = c.as_slice-in-Chain.result.now in
    let parts_is : c.as_slice.result.now ≡ c.in-Chain.parts = search rules in
    let ops_is : ops ≡ c.in-Chain.ops = search rules in
    let is : c.args.expr.now ≡ Chain (front ++ part ∷ back) ops = c.in-Chain.is ∙ ap₂ Chain (sym parts_is ∙ c.around.ensures.split) (sym ops_is) in
    let split = split_way x front part back ops (subst (IsOnWay x) is c.requires.way) c.around.ensures.reached in
    let valued = valued_split x v front part back ops split (subst (λ p. AreValues (beside x p v)) is c.requires.beside) in
    valued.2

pub before_chain-requires-clause-plain_front : goal.before_chain-requires-clause-plain_front
before_chain-requires-clause-plain_front g t c =
    let v = g.V.Lookup.views c.args.values.now in
    let x = c.args.name in
    let front = c.around.result.0.now in let part = c.around.result.1.now in let back = c.around.result.2.now in
    let ops = c.as_slice-in-Chain.result.now in
    let parts_is : c.as_slice.result.now ≡ c.in-Chain.parts = search rules in
    let ops_is : ops ≡ c.in-Chain.ops = search rules in
    let is : c.args.expr.now ≡ Chain (front ++ part ∷ back) ops = c.in-Chain.is ∙ ap₂ Chain (sym parts_is ∙ c.around.ensures.split) (sym ops_is) in
    let split = split_way x front part back ops (subst (IsOnWay x) is c.requires.way) c.around.ensures.reached in
    split.plain_front

pub before_chain-requires-clause-plain_back : goal.before_chain-requires-clause-plain_back
before_chain-requires-clause-plain_back g t c =
    let v = g.V.Lookup.views c.args.values.now in
    let x = c.args.name in
    let front = c.around.result.0.now in let part = c.around.result.1.now in let back = c.around.result.2.now in
    let ops = c.as_slice-in-Chain.result.now in
    let parts_is : c.as_slice.result.now ≡ c.in-Chain.parts = search rules in
    let ops_is : ops ≡ c.in-Chain.ops = search rules in
    let is : c.args.expr.now ≡ Chain (front ++ part ∷ back) ops = c.in-Chain.is ∙ ap₂ Chain (sym parts_is ∙ c.around.ensures.split) (sym ops_is) in
    let split = split_way x front part back ops (subst (IsOnWay x) is c.requires.way) c.around.ensures.reached in
    split.plain_back

pub undo-requires-in-Ok-before_chain : goal.undo-requires-in-Ok-before_chain
undo-requires-in-Ok-before_chain g t c κs within =
    let v = g.V.Lookup.views c.args.values.now in
    let x = c.args.name in
    let front = c.around.result.0.now in let part = c.around.result.1.now in let back = c.around.result.2.now in
    let ops = c.as_slice-in-Chain.result.now in
    let parts_is : c.as_slice.result.now ≡ c.in-Chain.parts = search rules in
    let ops_is : ops ≡ c.in-Chain.ops = search rules in
    let is : c.args.expr.now ≡ Chain (front ++ part ∷ back) ops = c.in-Chain.is ∙ ap₂ Chain (sym parts_is ∙ c.around.ensures.split) (sym ops_is) in
    let split = split_way x front part back ops (subst (IsOnWay x) is c.requires.way) c.around.ensures.reached in
    let valued = valued_split x v front part back ops split (subst (λ p. AreValues (beside x p v)) is c.requires.beside) in
    let size = ap nodes is ∙ nodes-Chain (front ++ part ∷ back) ops in
    let few = all_nodes_append front part back in
    (omega (arith, c.decreases, size, few), (search rules, (split.way, (c.in-Ok-before_chain.ensures.0, (valued.1, c.requires.interval)))))

pub returns-in-Ok-before_chain : goal.returns-in-Ok-before_chain
returns-in-Ok-before_chain g t c =
    let v = g.V.Lookup.views c.args.values.now in
    let x = c.args.name in
    let front = c.around.result.0.now in let part = c.around.result.1.now in let back = c.around.result.2.now in
    let ops = c.as_slice-in-Chain.result.now in
    let parts_is : c.as_slice.result.now ≡ c.in-Chain.parts = search rules in
    let ops_is : ops ≡ c.in-Chain.ops = search rules in
    let is : c.args.expr.now ≡ Chain (front ++ part ∷ back) ops = c.in-Chain.is ∙ ap₂ Chain (sym parts_is ∙ c.around.ensures.split) (sym ops_is) in
    let split = split_way x front part back ops (subst (IsOnWay x) is c.requires.way) c.around.ensures.reached in
    subst (λ p. Undoes (answers_by x p v) c.args.target c.undo-in-Ok-before_chain.result) (sym is)
    (down x v (Chain (front ++ part ∷ back) ops) part (λ a. chain ops (answers front v ++ a ∷ answers back v)) (λ w. split.value_is v w) split.way
    c.args.target c.in-Ok-before_chain.before c.undo-in-Ok-before_chain.result c.in-Ok-before_chain.ensures c.undo-in-Ok-before_chain.ensures)

pub returns-in-Err-before_chain : goal.returns-in-Err-before_chain
returns-in-Err-before_chain g t c =
    let v = g.V.Lookup.views c.args.values.now in
    let x = c.args.name in
    let front = c.around.result.0.now in let part = c.around.result.1.now in let back = c.around.result.2.now in
    let ops = c.as_slice-in-Chain.result.now in
    let parts_is : c.as_slice.result.now ≡ c.in-Chain.parts = search rules in
    let ops_is : ops ≡ c.in-Chain.ops = search rules in
    let is : c.args.expr.now ≡ Chain (front ++ part ∷ back) ops = c.in-Chain.is ∙ ap₂ Chain (sym parts_is ∙ c.around.ensures.split) (sym ops_is) in
    let split = split_way x front part back ops (subst (IsOnWay x) is c.requires.way) c.around.ensures.reached in
    subst (λ p. Undoes (answers_by x p v) c.args.target (Err c.in-Err-before_chain.kind)) (sym is)
    (stuck x v (Chain (front ++ part ∷ back) ops) part (λ a. chain ops (answers front v ++ a ∷ answers back v)) (λ w. split.value_is v w) split.way
    c.args.target c.in-Err-before_chain.kind c.in-Err-before_chain.ensures)
