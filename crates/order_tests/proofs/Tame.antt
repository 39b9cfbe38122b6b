-- How tame expressions are made.
use Rattle.std.proofs.Common.{◌≡◌, refl, ap, ◌∙◌, sym, subst, ℕ, ◌+◌, ◌==◌, ℤ, ◌+ℤ◌, ◌-ℤ◌, neg_ℤ, ◌&&◌, ◌||◌, ◌++◌, Bool, true, false, List, [], ◌∷◌, length, map, Option, Some, Result, Ok, Err, if◌then◌else◌}
use Rattle.std.specs.List.{list_all}
use Rattle.std.proofs.lemmas.Bool.{false≢true}
use Rattle.sync_values.specs.Arithmetic.{fitted, over, exact_div}
use Rattle.sync_values.specs.declared.value.Value.{Value}
use Rattle.sync_values.specs.declared.value.Value.TheVariants as value
use Rattle.sync_values.specs.declared.value.Fail.{Fail}
use Rattle.sync_values.specs.declared.value.ChainOp.{ChainOp}
use Rattle.sync_values.specs.declared.value.ChainOp.TheVariants.{Plus, Minus, Times, Over, And, Or}
use Rattle.flat_model.specs.declared.expression.Expr.{Expr}
use Rattle.flat_model.specs.declared.expression.Fun.TheVariants.{Div}
use Rattle.flat_model.specs.declared.expression.Fun.{Fun}
use Rattle.flat_model.specs.declared.expression.Expr.TheVariants.{Const, Read, Chain, Neg, Not, Apply, Previous, rolls-Const, rolls-Read, rolls-Chain, rolls-Neg, rolls-Not, rolls-Apply, rolls-Previous}
use Rattle.flat_model.specs.declared.clock.ClockExpr.TheOpen.{Expr-F}
use Rattle.flat_model.specs.declared.clock.ClockExpr.TheFolds.{fold-roll-Expr}
use Rattle.flat_model.specs.declared.evaluate.Vantage.TheVariants.{Now}
use Rattle.flat_model.specs.Occurrences.{is_sum}
use Rattle.flat_model.specs.Operators.{Answer, Is, Fails, Absent, settled, read, joined, negated}
use Rattle.flat_model.specs.Views.{Views}
use Rattle.flat_model.specs.Meaning.{Meaning, seen_by, value_of}
use Rattle.flat_model.specs.Ways.{Way, beside_of, way_through, way_to}
use Rattle.flat_model.specs.Samples.{may_stand}
use Rattle.flat_model.proofs.Levels.{way_to-Const, way_to-Read, way_to-Previous, way_to-Chain}
use Rattle.flat_model.proofs.Standings.{may_stand-Const, may_stand-Read, may_stand-Chain, may_stand-Neg, may_stand-Not, may_stand-Apply, may_stand-Previous}
use Rattle.flat_model.proofs.Values.{value_of-Const, value_of-Read, value_of-Chain, value_of-Neg, value_of-Apply, value_of-Previous}
use Rattle.eq_orient.specs.Solving.{formed_level, is_formed, ArePresent}
use Rattle.eq_orient.proofs.Passing.{is_passed}
use Rattle.order_tests.specs.Tame.{AreWhole, IsWhole, IsReady, IsTame}

way_to-Neg : (x : ℕ) (part : Expr) → way_to x (Neg part) ≡ way_through x (Expr-F.Neg (way_to x part))
unfolding way_to
way_to-Neg x part = ap (way_to x) (sym (rolls-Neg part)) ∙ fold-roll-Expr (Unit {0}) Way (λ _. tt) (way_through x) (Expr-F.Neg part)

way_to-Not : (x : ℕ) (part : Expr) → way_to x (Not part) ≡ way_through x (Expr-F.Not (way_to x part))
unfolding way_to
way_to-Not x part = ap (way_to x) (sym (rolls-Not part)) ∙ fold-roll-Expr (Unit {0}) Way (λ _. tt) (way_through x) (Expr-F.Not part)

way_to-Apply : (x : ℕ) (function : Fun) (parts : List Expr) → way_to x (Apply function parts) ≡ way_through x (Expr-F.Apply function (map (way_to x) parts))
unfolding way_to
way_to-Apply x function parts = ap (way_to x) (sym (rolls-Apply function parts)) ∙ fold-roll-Expr (Unit {0}) Way (λ _. tt) (way_through x) (Expr-F.Apply function parts)

is_formed-Const : (v : Value) → is_formed (Const v) ≡ true
unfolding is_formed
is_formed-Const v = ap is_formed (sym (rolls-Const v)) ∙ fold-roll-Expr (Unit {0}) Bool (λ _. tt) formed_level (Expr-F.Const v)

is_formed-Read : (x : ℕ) → is_formed (Read x) ≡ true
unfolding is_formed
is_formed-Read x = ap is_formed (sym (rolls-Read x)) ∙ fold-roll-Expr (Unit {0}) Bool (λ _. tt) formed_level (Expr-F.Read x)

is_formed-Previous : (x : ℕ) → is_formed (Previous x) ≡ true
unfolding is_formed
is_formed-Previous x = ap is_formed (sym (rolls-Previous x)) ∙ fold-roll-Expr (Unit {0}) Bool (λ _. tt) formed_level (Expr-F.Previous x)

is_formed-Neg : (part : Expr) → is_formed (Neg part) ≡ is_formed part
unfolding is_formed
is_formed-Neg part = ap is_formed (sym (rolls-Neg part)) ∙ fold-roll-Expr (Unit {0}) Bool (λ _. tt) formed_level (Expr-F.Neg part)

is_formed-Not : (part : Expr) → is_formed (Not part) ≡ is_formed part
unfolding is_formed
is_formed-Not part = ap is_formed (sym (rolls-Not part)) ∙ fold-roll-Expr (Unit {0}) Bool (λ _. tt) formed_level (Expr-F.Not part)

is_formed-Apply : (function : Fun) (parts : List Expr) → is_formed (Apply function parts) ≡ true
unfolding is_formed
is_formed-Apply function parts = ap is_formed (sym (rolls-Apply function parts)) ∙ fold-roll-Expr (Unit {0}) Bool (λ _. tt) formed_level (Expr-F.Apply function parts)

is_formed-Chain : (parts : List Expr) (ops : List ChainOp) → is_formed (Chain parts ops) ≡ (length (map is_formed parts) == length ops + 1 && list_all (λ part. part) (map is_formed parts))
unfolding is_formed
is_formed-Chain parts ops = ap is_formed (sym (rolls-Chain parts ops)) ∙ fold-roll-Expr (Unit {0}) Bool (λ _. tt) formed_level (Expr-F.Chain parts ops)

-- ---- answers

whole_present : (a : Answer) → IsWhole a → a ≡ Absent → ⊥
whole_present a whole absent = subst IsWhole absent whole

of_settled : (r : Result ℤ Fail) → IsWhole (settled r)
of_settled (Ok z) = tt
of_settled (Err kind) = tt

of_negated : (a : Answer) → IsWhole a → IsWhole (negated a)
of_negated (Is (value.Int z)) whole = of_settled (fitted (neg_ℤ z))
of_negated (Is (value.Bool b)) whole = absurd whole
of_negated (Fails kind) whole = tt
of_negated Absent whole = absurd whole

of_joined : (op : ChainOp) → is_sum op ≡ true → (a b : Answer) → IsWhole a → IsWhole b → IsWhole (joined op a b)
of_joined Plus sum (Is (value.Int a)) (Is (value.Int b)) one two = of_settled (fitted (a +ℤ b))
of_joined Plus sum (Is (value.Int a)) (Is (value.Bool b)) one two = absurd two
of_joined Plus sum (Is (value.Int a)) (Fails kind) one two = tt
of_joined Plus sum (Is (value.Int a)) Absent one two = absurd two
of_joined Plus sum (Is (value.Bool a)) b one two = absurd one
of_joined Plus sum (Fails kind) b one two = tt
of_joined Plus sum Absent b one two = absurd one
of_joined Minus sum (Is (value.Int a)) (Is (value.Int b)) one two = of_settled (fitted (a -ℤ b))
of_joined Minus sum (Is (value.Int a)) (Is (value.Bool b)) one two = absurd two
of_joined Minus sum (Is (value.Int a)) (Fails kind) one two = tt
of_joined Minus sum (Is (value.Int a)) Absent one two = absurd two
of_joined Minus sum (Is (value.Bool a)) b one two = absurd one
of_joined Minus sum (Fails kind) b one two = tt
of_joined Minus sum Absent b one two = absurd one
of_joined Times sum a b one two = absurd (false≢true sum)
of_joined Over sum a b one two = absurd (false≢true sum)
of_joined And sum a b one two = absurd (false≢true sum)
of_joined Or sum a b one two = absurd (false≢true sum)

present_append : (views : Views) (xs ys : List Meaning) → ArePresent (seen_by views xs) → ArePresent (seen_by views ys) → ArePresent (seen_by views (xs ++ ys))
present_append views [] ys one two = two
present_append views (x ∷ xs) ys one two = (one.0, present_append views xs ys one.1 two)

both_true : (a b : Bool) → a ≡ true → b ≡ true → a && (b && true) ≡ true
both_true true true one two = refl
both_true true false one two = two
both_true false b one two = one

-- ---- leaves

-- an expression in which name 0 is not reached is ready where it has an answer
leaf_present : (e : Expr) (way : Way) → way_to 0 e ≡ way → (views : Views) → (value_of e views ≡ Absent → ⊥) → way.reaches ≡ false → ArePresent (seen_by views (beside_of (way_to 0 e)))
leaf_present e way is views there out = by_reach (way_to 0 e).reaches (ap (λ w. w.reaches) is ∙ out)
  where
    by_reach : (b : Bool) → b ≡ false → ArePresent (seen_by views (if b then (way_to 0 e).beside else ((way_to 0 e).meaning ∷ [])))
    by_reach true e_is = absurd (false≢true (sym e_is))
    by_reach false e_is = ((λ absent. there (sym ((is_passed 0 e).means views) ∙ absent)), tt)

pub ready_const : (v : Value) → IsReady (Const v)
ready_const v = record {
  formed = is_formed-Const v;
  plain = may_stand-Const v Now;
  present = λ views whole. leaf_present (Const v) _ (way_to-Const 0 v) views (λ absent. is_not (sym (value_of-Const v views) ∙ absent)) refl;
}
  where
    is_not : Is v ≡ Absent → ⊥
    is_not e = cc e

pub tame_const : (z : ℤ) → IsTame (Const (value.Int z))
tame_const z = record {
  ready = ready_const (value.Int z);
  typed = λ out views whole. subst IsWhole (sym (value_of-Const (value.Int z) views)) tt;
}

read_whole : (o : Option Value) (z : ℤ) → o ≡ Some (value.Int z) → (a : Answer) → a ≡ read o → IsWhole a
read_whole o z e a is = subst IsWhole (sym (is ∙ ap read e)) tt

pub tame_own : IsTame (Read 0)
tame_own = record {
  ready = record {
    formed = is_formed-Read 0;
    plain = may_stand-Read 0 Now;
    present = λ views whole. subst (λ way. ArePresent (seen_by views (beside_of way))) (sym (way_to-Read 0 0)) tt;
  };
  typed = λ out views whole. absurd (false≢true (sym out ∙ ap (λ way. way.reaches) (way_to-Read 0 0)));
}

number_read : (views : Views) → AreWhole views → (n : ℕ) → IsWhole (value_of (Read n) views)
number_read views whole n = let (z, is) = whole.now n in read_whole ((views 0).now n) z is (value_of (Read n) views) (value_of-Read n views)

number_before : (views : Views) → AreWhole views → (n : ℕ) → IsWhole (value_of (Previous n) views)
number_before views whole n = let (z, is) = whole.previous n in read_whole ((views 0).previous n) z is (value_of (Previous n) views) (value_of-Previous n views)

pub tame_other : (n : ℕ) → n == 0 ≡ false → IsTame (Read n)
tame_other n other = record {
  ready = record {
    formed = is_formed-Read n;
    plain = may_stand-Read n Now;
    present = λ views whole. leaf_present (Read n) _ (way_to-Read 0 n) views (λ absent. whole_present (value_of (Read n) views) (number_read views whole n) absent) other;
  };
  typed = λ out views whole. number_read views whole n;
}

pub tame_previous : (n : ℕ) → IsTame (Previous n)
tame_previous n = record {
  ready = record {
    formed = is_formed-Previous n;
    plain = may_stand-Previous n Now;
    present = λ views whole. leaf_present (Previous n) _ (way_to-Previous 0 n) views (λ absent. whole_present (value_of (Previous n) views) (number_before views whole n) absent) refl;
  };
  typed = λ out views whole. number_before views whole n;
}

abbrev quotient : ℤ → ℤ → Expr
quotient a b = Apply Div (Const (value.Int a) ∷ (Const (value.Int b) ∷ []))

quotient_whole : (a b : ℤ) (views : Views) → IsWhole (value_of (quotient a b) views)
quotient_whole a b views = simp (value_of-Apply, value_of-Const) (of_settled (over b (exact_div a b)))

pub tame_quotient : (a b : ℤ) → IsTame (Apply Div (Const (value.Int a) ∷ (Const (value.Int b) ∷ [])))
tame_quotient a b = record {
  ready = record {
    formed = is_formed-Apply Div (Const (value.Int a) ∷ (Const (value.Int b) ∷ []));
    plain = simp (may_stand-Apply, may_stand-Const) refl;
    present = λ views whole. leaf_present (quotient a b) _ (way_to-Apply 0 Div (Const (value.Int a) ∷ (Const (value.Int b) ∷ []))) views
        (λ absent. whole_present (value_of (quotient a b) views) (quotient_whole a b views) absent) refl;
  };
  typed = λ out views whole. quotient_whole a b views;
}

-- ---- operators

chain_present : (op : ChainOp) (views : Views) (fm : Meaning) (fb : Bool) (fl : List Meaning) (gm : Meaning) (gb : Bool) (gl : List Meaning)
    → ArePresent (seen_by views (if fb then fl else (fm ∷ []))) → ArePresent (seen_by views (if gb then gl else (gm ∷ [])))
    → (fb ≡ false → gb ≡ false → joined op (fm views) (gm views) ≡ Absent → ⊥)
    → ArePresent (seen_by views (beside_of (way_through 0 (Expr-F.Chain (record { meaning = fm; reaches = fb; beside = fl } ∷ (record { meaning = gm; reaches = gb; beside = gl } ∷ [])) (op ∷ [])))))
chain_present op views fm true fl gm gb gl one two both =
    present_append views fl ((if gb then gl else (gm ∷ [])) ++ []) one (present_append views (if gb then gl else (gm ∷ [])) [] two tt)
chain_present op views fm false fl gm true gl one two both = (one.0, present_append views gl [] two tt)
chain_present op views fm false fl gm false gl one two both = (both refl refl, tt)

or_false : (a b : Bool) → a || (b || false) ≡ false → (a ≡ false) × (b ≡ false)
or_false false false e = (refl, refl)
or_false false true e = absurd (false≢true (sym e))
or_false true b e = absurd (false≢true (sym e))

module _ (op : ChainOp) (sum : is_sum op ≡ true) (first second : Expr) (one : IsTame first) (two : IsTame second) where
  abbrev parts : List Expr
  parts = first ∷ (second ∷ [])

  sum_whole : (way_to 0 first).reaches ≡ false → (way_to 0 second).reaches ≡ false → (views : Views) → AreWhole views → IsWhole (joined op (value_of first views) (value_of second views))
  sum_whole out other views whole = of_joined op sum (value_of first views) (value_of second views) (one.typed out views whole) (two.typed other views whole)

  pub tame_sum : IsTame (Chain (first ∷ (second ∷ [])) (op ∷ []))
  tame_sum = record {
    ready = record {
      formed = is_formed-Chain parts (op ∷ []) ∙ both_true (is_formed first) (is_formed second) one.ready.formed two.ready.formed;
      plain = may_stand-Chain parts (op ∷ []) Now ∙ both_true (may_stand first Now) (may_stand second Now) one.ready.plain two.ready.plain;
      present = λ views whole. subst (λ way. ArePresent (seen_by views (beside_of way))) (sym (way_to-Chain 0 parts (op ∷ [])))
          (chain_present op views (way_to 0 first).meaning (way_to 0 first).reaches (way_to 0 first).beside (way_to 0 second).meaning (way_to 0 second).reaches (way_to 0 second).beside
          (one.ready.present views whole) (two.ready.present views whole)
          (λ out other absent. whole_present (joined op (value_of first views) (value_of second views)) (sum_whole out other views whole)
          (sym (ap (λ a. joined op a (value_of second views)) ((is_passed 0 first).means views)) ∙ (sym (ap (λ b. joined op ((way_to 0 first).meaning views) b) ((is_passed 0 second).means views)) ∙ absent))));
    };
    typed = λ out views whole.
        let outs = or_false (way_to 0 first).reaches (way_to 0 second).reaches (sym (ap (λ way. way.reaches) (way_to-Chain 0 parts (op ∷ []))) ∙ out) in
        subst IsWhole (sym (value_of-Chain parts (op ∷ []) views)) (sum_whole outs.0 outs.1 views whole);
  }

neg_present : (views : Views) (m : Meaning) (b : Bool) (l : List Meaning) → ArePresent (seen_by views (if b then l else (m ∷ []))) → (b ≡ false → negated (m views) ≡ Absent → ⊥)
    → ArePresent (seen_by views (beside_of (way_through 0 (Expr-F.Neg (record { meaning = m; reaches = b; beside = l })))))
neg_present views m true l there none = there
neg_present views m false l there none = (none refl, tt)

pub tame_neg : (part : Expr) → IsTame part → IsTame (Neg part)
tame_neg part tame = record {
  ready = record {
    formed = is_formed-Neg part ∙ tame.ready.formed;
    plain = may_stand-Neg part Now ∙ tame.ready.plain;
    present = λ views whole. subst (λ way. ArePresent (seen_by views (beside_of way))) (sym (way_to-Neg 0 part))
        (neg_present views (way_to 0 part).meaning (way_to 0 part).reaches (way_to 0 part).beside (tame.ready.present views whole)
        (λ out absent. whole_present (negated (value_of part views)) (of_negated (value_of part views) (tame.typed out views whole)) (sym (ap negated ((is_passed 0 part).means views)) ∙ absent)));
  };
  typed = λ out views whole. subst IsWhole (sym (value_of-Neg part views))
      (of_negated (value_of part views) (tame.typed (sym (ap (λ way. way.reaches) (way_to-Neg 0 part)) ∙ out) views whole));
}

pub ready_not : IsReady (Not (Read 0))
ready_not = record {
  formed = is_formed-Not (Read 0) ∙ is_formed-Read 0;
  plain = may_stand-Not (Read 0) Now ∙ may_stand-Read 0 Now;
  present = λ views whole. subst (λ way. ArePresent (seen_by views (beside_of way))) (sym (way_to-Not 0 (Read 0) ∙ ap (λ way. way_through 0 (Expr-F.Not way)) (way_to-Read 0 0))) tt;
}

-- both sides of an equation
pub both_present : (views : Views) (left right : Expr) → AreWhole views → IsReady left → IsReady right → ArePresent (seen_by views (beside_of (way_to 0 left) ++ beside_of (way_to 0 right)))
both_present views left right whole one two = present_append views (beside_of (way_to 0 left)) (beside_of (way_to 0 right)) (one.present views whole) (two.present views whole)
