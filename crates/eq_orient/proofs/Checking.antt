-- The first failure among the parts beside the way.
use Rattle.std.proofs.Common.{◌≡◌, ◌≢◌, refl, ap, ◌∙◌, sym, subst, ℕ, zero, suc, ◌+◌, ◌<◌, ◌≤◌, true, List, [], ◌∷◌, ◌++◌, length, get_or, drop, arith, length-drop, Result, Ok, Err}
use Rattle.std.specs.List.{list_all}
use Rattle.std.proofs.lemmas.List.{length-map, drop_all}
use Rattle.sync_values.specs.declared.value.Value.{Value}
use Rattle.sync_values.specs.declared.value.Fail.{Fail}
use Rattle.sync_values.specs.declared.value.ChainOp.{ChainOp}
use Rattle.sync_values.specs.declared.value.ChainOp.TheVariants.{Plus}
use Rattle.flat_model.specs.declared.expression.Expr.{Expr}
use Rattle.flat_model.specs.declared.expression.Expr.TheVariants.{Read, Chain, Neg, Not}
use Rattle.flat_model.specs.Occurrences.{is_sum}
use Rattle.flat_model.specs.Operators.{Answer, Is, Fails, Absent, chain, joined, negated, inverted}
use Rattle.flat_model.specs.Ways.{kind_of}
use Rattle.flat_model.specs.Views.{Views}
use Rattle.flat_model.specs.Meaning.{value_of, seen_by, answers}
use Rattle.flat_model.proofs.Levels.{way_to-Read}
use Rattle.flat_model.proofs.Evaluations.{dropped_at}
use Rattle.eq_orient.specs.Solving.{with_now, ArePresent}
use Rattle.eq_orient.specs.private.Undoing.{AreValues, front_of, beside, ChecksAll, Checks}
use Rattle.eq_orient.proofs.Undoing.{any_default}
use Rattle.eq_orient.proofs.Descent.{values_both, values_from, chained_split, joined_strict, strict, IsSplitWay, beside-Neg, beside-Not}
use Rattle.eq_orient.proofs.Chains.{sum_at, sums_drop}
use Rattle.eq_orient.proofs.Down.{is_Neg, is_Not}

pub present_both : (xs ys : List Answer) → ArePresent (xs ++ ys) → ArePresent xs × ArePresent ys
present_both [] ys all = (tt, all)
present_both (x ∷ xs) ys all = let both = present_both xs ys all.1 in ((all.0, both.0), both.1)

clash : (kind : Fail) (v : Value) → Fails kind ≡ Is v → ⊥
clash kind v e = cc

kind_first : (xs ys : List Answer) → ArePresent xs → (AreValues xs → ⊥) → kind_of (xs ++ ys) ≡ kind_of xs
kind_first [] ys here none = absurd (none tt)
kind_first (Is v ∷ xs) ys here none = kind_first xs ys here.1 (λ all. none ((v, refl), all))
kind_first (Fails kind ∷ xs) ys here none = refl
kind_first (Absent ∷ xs) ys here none = absurd (here.0 refl)

kind_then : (xs ys : List Answer) → AreValues xs → kind_of (xs ++ ys) ≡ kind_of ys
kind_then [] ys all = refl
kind_then (Is v ∷ xs) ys all = kind_then xs ys all.1
kind_then (Fails kind ∷ xs) ys all = absurd (clash kind all.0.0 all.0.1)
kind_then (Absent ∷ xs) ys all = kind_then xs ys all.1

pub kind_none : (xs : List Answer) → AreValues xs → kind_of xs ≡ kind_of []
kind_none [] all = refl
kind_none (Is v ∷ xs) all = kind_none xs all.1
kind_none (Fails kind ∷ xs) all = absurd (clash kind all.0.0 all.0.1)
kind_none (Absent ∷ xs) all = kind_none xs all.1

pub all_first : (xs ys : List Answer) (kind : Fail) → ArePresent xs → ChecksAll xs (Err kind) → ChecksAll (xs ++ ys) (Err kind)
all_first xs ys kind here checks = (checks.0 ∙ sym (kind_first xs ys here checks.1), λ all. checks.1 (values_both xs ys all).0)

pub all_then : (xs ys : List Answer) (r : Result (Unit {0}) Fail) → AreValues xs → ChecksAll ys r → ChecksAll (xs ++ ys) r
all_then xs ys (Ok done) values checks = values_from xs ys values checks
all_then xs ys (Err kind) values checks = (checks.0 ∙ sym (kind_then xs ys values), λ all. checks.1 (values_both xs ys all).1)

pub present_at : (parts : List Expr) (views : Views) (i : ℕ) (part : Expr) → ArePresent (answers parts views) → i < length parts → part ≡ get_or parts i part → value_of part views ≢ Absent
present_at [] views i part here within is = absurd (omega (arith, within))
present_at (p ∷ parts) views zero part here within is = λ absent. here.0 (sym (ap (λ e. value_of e views) is) ∙ absent)
present_at (p ∷ parts) views (suc i) part here within is = present_at parts views i part here.1 (omega (arith, within)) is

module _ (parts : List Expr) (views : Views) (i : ℕ) where
  pub step_on : (part : Expr) (v : Value) (r : Result (Unit {0}) Fail) → i < length parts → part ≡ get_or parts i part → value_of part views ≡ Is v
      → ChecksAll (answers (drop (suc i) parts) views) r → ChecksAll (answers (drop i parts) views) r
  step_on part v r within is value checks =
      subst (λ ps. ChecksAll (answers ps views) r) (sym (dropped_at parts i part within is)) (all_then (value_of part views ∷ []) (answers (drop (suc i) parts) views) r ((v, value), tt) checks)

  pub step_out : (part : Expr) (kind : Fail) → i < length parts → part ≡ get_or parts i part → value_of part views ≡ Fails kind → ChecksAll (answers (drop i parts) views) (Err kind)
  step_out part kind within is fails =
      subst (λ ps. ChecksAll (answers ps views) (Err kind)) (sym (dropped_at parts i part within is)) (out (value_of part views) fails)
    where
      out : (a : Answer) → a ≡ Fails kind → ChecksAll (a ∷ answers (drop (suc i) parts) views) (Err kind)
      out (Fails k) same = (named k kind same, λ all. clash k all.0.0 all.0.1)
        where
          named : (k kind : Fail) → Fails k ≡ Fails kind → kind ≡ k
          named k kind e = cc
      out (Is v) same = cc
      out Absent same = cc

  pub step_end : length parts ≤ i → ChecksAll (answers (drop i parts) views) (Ok tt)
  step_end past = subst (λ ps. AreValues (answers ps views)) (sym (drop_all i parts past)) tt

-- a chain on the way has a value only where all beside it have
module _ (ops : List ChainOp) (back : List Answer) (sums : list_all is_sum ops ≡ true) where
  pub chain_strict : (front : List Answer) (a : Answer) (v : Value) → length ops ≡ length front + length back → chain ops (front ++ a ∷ back) ≡ Is v
      → AreValues (front_of ops front) × ((u : Value) × (a ≡ Is u)) × AreValues back
  chain_strict [] a v long e = let all = strict ops back a v sums (omega (arith, long)) e in (tt, all.0, all.1)
  chain_strict (f ∷ front) a v long e =
      let op = get_or ops (length front) Plus in
      let within : length front < length ops = omega (arith, long) in
      let split = chained_split ops front a back f op within (any_default ops (length front) Plus op within) in
      let rest = strict (drop (suc (length front)) ops) back (joined op (chain ops (f ∷ front)) a) v (sums_drop ops (suc (length front)) sums)
      (omega (arith, long, length-drop (suc (length front)) ops)) (sym split ∙ e) in
      let here = joined_strict op (sum_at ops (length front) Plus sums within) (chain ops (f ∷ front)) a rest.0.0 rest.0.1 in
      ((here.0, tt), here.1, rest.1)

negated_strict : (a : Answer) (v : Value) → negated a ≡ Is v → (u : Value) × (a ≡ Is u)
negated_strict (Is u) v e = (u, refl)
negated_strict (Fails kind) v e = cc
negated_strict Absent v e = cc

inverted_strict : (a : Answer) (v : Value) → inverted a ≡ Is v → (u : Value) × (a ≡ Is u)
inverted_strict (Is u) v e = (u, refl)
inverted_strict (Fails kind) v e = cc
inverted_strict Absent v e = cc

module _ (x : ℕ) (views : Views) where
  pub checks-Read : (y : ℕ) → Checks x (Read y) views (Ok tt)
  checks-Read y = subst AreValues (sym (ap (λ way. seen_by views way.beside) (way_to-Read x y))) tt

  pub checks-Neg : (part : Expr) (r : Result (Unit {0}) Fail) → Checks x part views r → Checks x (Neg part) views r
  checks-Neg part (Ok done) checks = subst AreValues (sym (beside-Neg x part views)) checks
  checks-Neg part (Err kind) checks = (
    subst (λ parts. ChecksAll parts (Err kind)) (sym (beside-Neg x part views)) checks.0,
    λ w v e. let part_is = negated_strict (value_of part (with_now x w views)) v (sym (is_Neg x views part w) ∙ e) in checks.1 w part_is.0 part_is.1,
  )

  pub checks-Not : (part : Expr) (r : Result (Unit {0}) Fail) → Checks x part views r → Checks x (Not part) views r
  checks-Not part (Ok done) checks = subst AreValues (sym (beside-Not x part views)) checks
  checks-Not part (Err kind) checks = (
    subst (λ parts. ChecksAll parts (Err kind)) (sym (beside-Not x part views)) checks.0,
    λ w v e. let part_is = inverted_strict (value_of part (with_now x w views)) v (sym (is_Not x views part w) ∙ e) in checks.1 w part_is.0 part_is.1,
  )

  module _ (front : List Expr) (part : Expr) (back : List Expr) (ops : List ChainOp) (split : IsSplitWay x front part back ops) where
    abbrev whole : Expr
    whole = Chain (front ++ part ∷ back) ops

    abbrev before : List Answer
    before = front_of ops (answers front views)

    pub present_split : ArePresent (beside x whole views) → ArePresent before × ArePresent (beside x part views) × ArePresent (answers back views)
    present_split all =
        let outer = present_both (before ++ beside x part views) (answers back views) (subst ArePresent (split.beside_is views) all) in
        let inner = present_both before (beside x part views) outer.0 in
        (inner.0, inner.1, outer.1)

    parts_of : (w v : Value) → value_of whole (with_now x w views) ≡ Is v
        → AreValues before × ((u : Value) × (value_of part (with_now x w views) ≡ Is u)) × AreValues (answers back views)
    parts_of w v e =
        chain_strict ops (answers back views) split.sums (answers front views) (value_of part (with_now x w views)) v
        (omega (arith, split.long, length-map front (λ it. value_of it views), length-map back (λ it. value_of it views))) (sym (split.value_is views w) ∙ e)

    onto : (r : Result (Unit {0}) Fail) → ChecksAll ((before ++ beside x part views) ++ answers back views) r → ChecksAll (beside x whole views) r
    onto r checks = subst (λ parts. ChecksAll parts r) (sym (split.beside_is views)) checks

    pub front_out : (kind : Fail) → ArePresent (beside x whole views) → ChecksAll before (Err kind) → Checks x whole views (Err kind)
    front_out kind here checks =
        let all = present_split here in
        let both = present_both (before ++ beside x part views) (answers back views) (subst ArePresent (split.beside_is views) here) in (
          onto (Err kind) (all_first (before ++ beside x part views) (answers back views) kind both.0 (all_first before (beside x part views) kind all.0 checks)),
          λ w v e. checks.1 (parts_of w v e).0,
        )

    pub part_out : (kind : Fail) → ArePresent (beside x whole views) → AreValues before → Checks x part views (Err kind) → Checks x whole views (Err kind)
    part_out kind here values checks =
        let both = present_both (before ++ beside x part views) (answers back views) (subst ArePresent (split.beside_is views) here) in (
          onto (Err kind) (all_first (before ++ beside x part views) (answers back views) kind both.0 (all_then before (beside x part views) (Err kind) values checks.0)),
          λ w v e. let own = (parts_of w v e).1 in checks.1 w own.0 own.1,
        )

    pub back_out : (r : Result (Unit {0}) Fail) → AreValues before → AreValues (beside x part views) → ChecksAll (answers back views) r → Checks x whole views r
    back_out (Ok done) one two checks = onto (Ok done) (all_then (before ++ beside x part views) (answers back views) (Ok done) (values_from before (beside x part views) one two) checks)
    back_out (Err kind) one two checks = (
      onto (Err kind) (all_then (before ++ beside x part views) (answers back views) (Err kind) (values_from before (beside x part views) one two) checks),
      λ w v e. checks.1 (parts_of w v e).2,
    )

pub fails_alone : (a : Answer) (kind : Fail) → a ≡ Fails kind → ChecksAll (a ∷ []) (Err kind)
fails_alone (Fails k) kind same = (named k kind same, λ all. clash k all.0.0 all.0.1)
  where
    named : (k kind : Fail) → Fails k ≡ Fails kind → kind ≡ k
    named k kind e = cc
fails_alone (Is v) kind same = cc
fails_alone Absent kind same = cc
