-- The value of an expression on the way, by that of the part below it.
use Rattle.std.proofs.Common.{◌≡◌, refl, ap, ◌∙◌, sym, subst, ℕ, ◌+◌, ◌≤◌, arith, cond, Some, List, [], ◌∷◌, ◌++◌, Result, Ok, Err}
use Rattle.sync_values.specs.declared.value.Value.{Value}
use Rattle.sync_values.specs.declared.value.Fail.{Fail}
use Rattle.sync_values.specs.declared.value.ChainOp.{ChainOp}
use Rattle.flat_model.specs.declared.expression.Expr.{Expr}
use Rattle.flat_model.specs.declared.expression.Expr.TheVariants.{Read, Chain, Neg, Not}
use Rattle.flat_model.specs.Operators.{Answer, Is, read, negated, inverted}
use Rattle.flat_model.specs.Views.{Views}
use Rattle.flat_model.specs.Meaning.{value_of, answers}
use Rattle.flat_model.proofs.Nodes.{nodes, all_nodes}
use Rattle.flat_model.proofs.Values.{value_of-Read, value_of-Neg, value_of-Not}
use Rattle.eq_orient.specs.Solving.{Fits, with_now}
use Rattle.eq_orient.specs.private.Undoing.{AnswerFits, answers_by, UndoneBy, Undoes, IsOnWay, AreValues, beside, front_of}
use Rattle.eq_orient.proofs.Reached.{is_reached-Read}
use Rattle.eq_orient.proofs.Undoing.{undoes_by, undoes_none}
use Rattle.eq_orient.proofs.Ways.{gives_fitting}
use Rattle.eq_orient.proofs.Descent.{IsSplitWay, values_both}

Undoes_same : (f g : Value → Answer) (target : Value) (result : Result Value Fail) → ((v : Value) → f v ≡ g v) → Undoes g target result → Undoes f target result
Undoes_same f g target (Ok v) same undone = (undone.0, same v ∙ undone.1, λ w fine e. undone.2 w fine (sym (same w) ∙ e))
Undoes_same f g target (Err kind) same undone = (undone.0, λ w fine e. undone.1 w fine (sym (same w) ∙ e))

module _ (x : ℕ) (views : Views) where
  pub at_name : (y : ℕ) (target : Value) → IsOnWay x (Read y) → Fits target → Undoes (answers_by x (Read y) views) target (Ok target)
  at_name y target way fits = (fits, is target, λ w fine e. same w (sym (is w) ∙ e))
    where
      is : (v : Value) → value_of (Read y) (with_now x v views) ≡ Is v
      is v = value_of-Read y (with_now x v views) ∙ ap (λ b. read (cond b (Some v) ((views 0).now y))) (sym (is_reached-Read x y) ∙ way.reached)

      same : (w : Value) → Is w ≡ Is target → w ≡ target
      same w e = cc

  module _ (e part : Expr) (operation : Answer → Answer) (is : (w : Value) → value_of e (with_now x w views) ≡ operation (value_of part (with_now x w views))) (way : IsOnWay x part) where
    fits : (v : Value) → Fits v → AnswerFits (value_of part (with_now x v views))
    fits v fine = gives_fitting x part way.formed way.reached v views fine

    pub down : (target before : Value) (r : Result Value Fail) → UndoneBy operation target (Ok before) → Undoes (answers_by x part views) before r → Undoes (answers_by x e views) target r
    down target before r first second =
        Undoes_same (answers_by x e views) (λ v. operation (answers_by x part views v)) target r is (undoes_by operation (answers_by x part views) target before r fits first second)

    pub stuck : (target : Value) (kind : Fail) → UndoneBy operation target (Err kind) → Undoes (answers_by x e views) target (Err kind)
    stuck target kind first =
        Undoes_same (answers_by x e views) (λ v. operation (answers_by x part views v)) target (Err kind) is (undoes_none operation (answers_by x part views) target kind fits first)

  pub is_Neg : (part : Expr) (w : Value) → value_of (Neg part) (with_now x w views) ≡ negated (value_of part (with_now x w views))
  is_Neg part w = value_of-Neg part (with_now x w views)

  pub is_Not : (part : Expr) (w : Value) → value_of (Not part) (with_now x w views) ≡ inverted (value_of part (with_now x w views))
  is_Not part w = value_of-Not part (with_now x w views)

  -- the values beside a chain's way, in front of the part, in it and behind it
  pub valued_split : (front : List Expr) (part : Expr) (back : List Expr) (ops : List ChainOp) → IsSplitWay x front part back ops → AreValues (beside x (Chain (front ++ part ∷ back) ops) views)
      → AreValues (front_of ops (answers front views)) × AreValues (beside x part views) × AreValues (answers back views)
  valued_split front part back ops split all =
      let outer = values_both (front_of ops (answers front views) ++ beside x part views) (answers back views) (subst AreValues (split.beside_is views) all) in
      let inner = values_both (front_of ops (answers front views)) (beside x part views) outer.0 in
      (inner.0, inner.1, outer.1)

pub all_nodes_append : (front : List Expr) (part : Expr) (back : List Expr) → nodes part ≤ all_nodes (front ++ part ∷ back)
all_nodes_append [] part back = let all : all_nodes (part ∷ back) ≡ nodes part + all_nodes back = refl in omega (arith, all)
all_nodes_append (e ∷ front) part back =
    let rest = all_nodes_append front part back in
    let all : all_nodes (e ∷ (front ++ part ∷ back)) ≡ nodes e + all_nodes (front ++ part ∷ back) = refl in
    omega (arith, rest, all)
