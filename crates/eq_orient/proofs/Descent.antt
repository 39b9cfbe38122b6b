-- One step down the way to a name.
use Rattle.std.proofs.Common.{◌≡◌, refl, ap, ap₂, ◌∙◌, sym, ℕ, suc, ◌+◌, ◌<◌, ◌==◌, ◌&&◌, Bool, true, false, List, [], ◌∷◌, ◌++◌, map, flat_map, sum, length, get_or, drop, arith, append_assoc, append-nil, length-append}
use Rattle.std.specs.List.{list_any, list_all}
use Rattle.std.proofs.lemmas.Bool.{and_parts, eqb-true}
use Rattle.std.proofs.lemmas.List.{map-append, length-map}
use Rattle.std.proofs.lemmas.List.Sums.{sum_by-cons, sum_by-append}
use Rattle.std.proofs.lemmas.List.Folds.{list_all-append}
use Rattle.sync_values.specs.declared.value.Value.{Value}
use Rattle.sync_values.specs.declared.value.ChainOp.{ChainOp}
use Rattle.sync_values.specs.declared.value.ChainOp.TheVariants.{Plus, Minus, Times, Over, And, Or}
use Rattle.flat_model.specs.declared.expression.Expr.{Expr}
use Rattle.flat_model.specs.declared.expression.Expr.TheVariants.{Chain, Neg, Not, rolls-Chain, rolls-Neg, rolls-Not}
use Rattle.flat_model.specs.declared.clock.ClockExpr.TheOpen.{Expr-F}
use Rattle.flat_model.specs.declared.clock.ClockExpr.TheFolds.{fold-roll-Expr}
use Rattle.flat_model.specs.declared.evaluate.Vantage.TheVariants.{Now}
use Rattle.flat_model.specs.Occurrences.{is_sum, bare_in_level, bare_count, is_reached}
use Rattle.flat_model.specs.Operators.{Answer, Is, Fails, Absent, chain, chained, joined}
use Rattle.flat_model.specs.Samples.{samples_are_plain, all_samples_are_plain}
use Rattle.flat_model.specs.Views.{Views}
use Rattle.flat_model.specs.Meaning.{Meaning, seen_by, value_of, answers}
use Rattle.flat_model.specs.Ways.{Way, beside_of, prefix_of, beside_in_chain, way_through, way_to}
use Rattle.flat_model.proofs.Levels.{bare_count-Chain, way_to-Chain}
use Rattle.flat_model.proofs.Values.{value_of-Chain}
use Rattle.flat_model.proofs.Standings.{may_stand-Chain, may_stand-Neg, may_stand-Not}
use Rattle.eq_orient.specs.Solving.{with_now, formed_level, is_formed}
use Rattle.eq_orient.specs.private.Undoing.{AreValues, front_of, IsOnWay, beside}
use Rattle.eq_orient.proofs.Passing.{is_passed}
use Rattle.eq_orient.proofs.Reached.{is_reached-Chain, is_reached-Neg, is_reached-Not}
use Rattle.eq_orient.proofs.Unread.{unread_all}

way_to-Neg : (x : ℕ) (part : Expr) → way_to x (Neg part) ≡ way_through x (Expr-F.Neg (way_to x part))
unfolding way_to
way_to-Neg x part = ap (way_to x) (sym (rolls-Neg part)) ∙ fold-roll-Expr (Unit {0}) Way (λ _. tt) (way_through x) (Expr-F.Neg part)

way_to-Not : (x : ℕ) (part : Expr) → way_to x (Not part) ≡ way_through x (Expr-F.Not (way_to x part))
unfolding way_to
way_to-Not x part = ap (way_to x) (sym (rolls-Not part)) ∙ fold-roll-Expr (Unit {0}) Way (λ _. tt) (way_through x) (Expr-F.Not part)

bare_count-Neg : (x : ℕ) (part : Expr) → bare_count x (Neg part) ≡ bare_count x part
unfolding bare_count
bare_count-Neg x part = ap (bare_count x) (sym (rolls-Neg part)) ∙ fold-roll-Expr (Unit {0}) ℕ (λ _. tt) (bare_in_level x) (Expr-F.Neg part)

bare_count-Not : (x : ℕ) (part : Expr) → bare_count x (Not part) ≡ bare_count x part
unfolding bare_count
bare_count-Not x part = ap (bare_count x) (sym (rolls-Not part)) ∙ fold-roll-Expr (Unit {0}) ℕ (λ _. tt) (bare_in_level x) (Expr-F.Not part)

is_formed-Neg : (part : Expr) → is_formed (Neg part) ≡ is_formed part
unfolding is_formed
is_formed-Neg part = ap is_formed (sym (rolls-Neg part)) ∙ fold-roll-Expr (Unit {0}) Bool (λ _. tt) formed_level (Expr-F.Neg part)

is_formed-Not : (part : Expr) → is_formed (Not part) ≡ is_formed part
unfolding is_formed
is_formed-Not part = ap is_formed (sym (rolls-Not part)) ∙ fold-roll-Expr (Unit {0}) Bool (λ _. tt) formed_level (Expr-F.Not part)

is_formed-Chain : (parts : List Expr) (ops : List ChainOp) → is_formed (Chain parts ops) ≡ (length (map is_formed parts) == length ops + 1 && list_all (λ part. part) (map is_formed parts))
unfolding is_formed
is_formed-Chain parts ops = ap is_formed (sym (rolls-Chain parts ops)) ∙ fold-roll-Expr (Unit {0}) Bool (λ _. tt) formed_level (Expr-F.Chain parts ops)

pub on_Neg : (x : ℕ) (part : Expr) → IsOnWay x (Neg part) → IsOnWay x part
on_Neg x part way = record {
  formed = sym (is_formed-Neg part) ∙ way.formed;
  reached = sym (is_reached-Neg x part) ∙ way.reached;
  once = sym (bare_count-Neg x part) ∙ way.once;
  plain = sym (may_stand-Neg part Now) ∙ way.plain;
}

pub on_Not : (x : ℕ) (part : Expr) → IsOnWay x (Not part) → IsOnWay x part
on_Not x part way = record {
  formed = sym (is_formed-Not part) ∙ way.formed;
  reached = sym (is_reached-Not x part) ∙ way.reached;
  once = sym (bare_count-Not x part) ∙ way.once;
  plain = sym (may_stand-Not part Now) ∙ way.plain;
}

pub beside-Neg : (x : ℕ) (part : Expr) (views : Views) → beside x (Neg part) views ≡ beside x part views
beside-Neg x part views = ap (λ way. seen_by views way.beside) (way_to-Neg x part)

pub beside-Not : (x : ℕ) (part : Expr) (views : Views) → beside x (Not part) views ≡ beside x part views
beside-Not x part views = ap (λ way. seen_by views way.beside) (way_to-Not x part)

-- values in a row
pub values_both : (xs ys : List Answer) → AreValues (xs ++ ys) → AreValues xs × AreValues ys
values_both [] ys all = (tt, all)
values_both (x ∷ xs) ys all = let both = values_both xs ys all.1 in ((all.0, both.0), both.1)

pub values_from : (xs ys : List Answer) → AreValues xs → AreValues ys → AreValues (xs ++ ys)
values_from [] ys one two = two
values_from (x ∷ xs) ys one two = (one.0, values_from xs ys one.1 two)

pub seen_append : (v : Views) (xs ys : List Meaning) → seen_by v (xs ++ ys) ≡ seen_by v xs ++ seen_by v ys
seen_append v [] ys = refl
seen_append v (x ∷ xs) ys = ap (λ r. x v ∷ r) (seen_append v xs ys)

prefix_seen : (ops : List ChainOp) (v : Views) (first : List Meaning) → seen_by v (prefix_of ops first) ≡ front_of ops (seen_by v first)
prefix_seen ops v [] = refl
prefix_seen ops v (a ∷ first) = refl

list_all_map : {A : Type 0} (f : A → Bool) (xs : List A) → list_all (λ b. b) (map f xs) ≡ list_all f xs
list_all_map f [] = refl
list_all_map f (x ∷ xs) = ap (λ b. f x && b) (list_all_map f xs)

module _ (x : ℕ) where
  -- a name that stands nowhere is not reached
  pub missed : (e : Expr) → bare_count x e ≡ 0 → (way_to x e).reaches ≡ false
  missed e none = by_reach (way_to x e).reaches refl
    where
      by_reach : (b : Bool) → (way_to x e).reaches ≡ b → (way_to x e).reaches ≡ false
      by_reach true r = absurd (omega (arith, (is_passed x e).some r, none))
      by_reach false r = r

  counts : (e : Expr) (es : List Expr) → sum (map (bare_count x) (e ∷ es)) ≡ bare_count x e + sum (map (bare_count x) es)
  counts e es = sum_by-cons (λ (n : ℕ). n) (bare_count x e) (map (bare_count x) es)

  rest_seen : (views : Views) (back : List Expr) → sum (map (bare_count x) back) ≡ 0 → seen_by views (flat_map beside_of (map (way_to x) back)) ≡ answers back views
  rest_seen views [] none = refl
  rest_seen views (e ∷ back) none =
      let total = counts e back in
      seen_append views (beside_of (way_to x e)) (flat_map beside_of (map (way_to x) back))
      ∙ ap₂ (λ a b. a ++ b) (one (missed e (omega (arith, none, total)))) (rest_seen views back (omega (arith, none, total)))
    where
      one : (way_to x e).reaches ≡ false → seen_by views (beside_of (way_to x e)) ≡ value_of e views ∷ []
      one r = rw r (ap (λ a. a ∷ []) ((is_passed x e).means views))

  beside_at : (ops : List ChainOp) (views : Views) (first : List Meaning) (front : List Expr) (part : Expr) (back : List Expr)
      → sum (map (bare_count x) front) ≡ 0 → (way_to x part).reaches ≡ true → sum (map (bare_count x) back) ≡ 0
      → seen_by views (beside_in_chain ops first (map (way_to x) (front ++ part ∷ back)))
      ≡ (front_of ops (seen_by views first ++ answers front views) ++ beside x part views) ++ answers back views
  beside_at ops views first [] part back none reaches rest =
      rw reaches (
      seen_append views (prefix_of ops first ++ (way_to x part).beside) (flat_map beside_of (map (way_to x) back))
      ∙ ap₂ (λ a b. a ++ b)
      (seen_append views (prefix_of ops first) (way_to x part).beside
      ∙ ap (λ a. a ++ beside x part views) (prefix_seen ops views first ∙ ap (front_of ops) (sym (append-nil (seen_by views first)))))
      (rest_seen views back rest)
      )
  beside_at ops views first (e ∷ front) part back none reaches rest =
      let total = counts e front in
      let none_here : bare_count x e ≡ 0 = omega (arith, none, total) in
      let none_there : sum (map (bare_count x) front) ≡ 0 = omega (arith, none, total) in
      rw (missed e none_here) (
      beside_at ops views (first ++ (way_to x e).meaning ∷ []) front part back none_there reaches rest
      ∙ ap (λ a. (front_of ops a ++ beside x part views) ++ answers back views)
      (ap (λ a. a ++ answers front views) (seen_append views first ((way_to x e).meaning ∷ []) ∙ ap (λ a. seen_by views first ++ a ∷ []) ((is_passed x e).means views))
      ∙ append_assoc (seen_by views first) (value_of e views ∷ []) (answers front views))
      )

  pub record IsSplitWay (front : List Expr) (part : Expr) (back : List Expr) (ops : List ChainOp) : Type 0 where
    pub sums : list_all is_sum ops ≡ true
    pub long : length ops ≡ length front + length back
    pub way : IsOnWay x part
    pub plain_front : all_samples_are_plain front ≡ true
    pub plain_back : all_samples_are_plain back ≡ true
    pub beside_is : (views : Views) → beside x (Chain (front ++ part ∷ back) ops) views ≡ (front_of ops (answers front views) ++ beside x part views) ++ answers back views
    pub value_is : (views : Views) (w : Value) → value_of (Chain (front ++ part ∷ back) ops) (with_now x w views)
        ≡ chain ops (answers front views ++ value_of part (with_now x w views) ∷ answers back views)

  pub split_way : (front : List Expr) (part : Expr) (back : List Expr) (ops : List ChainOp) → IsOnWay x (Chain (front ++ part ∷ back) ops) → is_reached x part ≡ true
      → IsSplitWay front part back ops
  split_way front part back ops way reached =
      let parts = front ++ part ∷ back in
      let shape = and_parts (length (map is_formed parts) == length ops + 1) (list_all (λ b. b) (map is_formed parts)) (sym (is_formed-Chain parts ops) ∙ way.formed) in
      let long : length parts ≡ length ops + 1 = sym (length-map parts is_formed) ∙ eqb-true (length (map is_formed parts)) (length ops + 1) shape.0 in
      let all_formed = and_parts (list_all is_formed front) (list_all is_formed (part ∷ back)) (sym (list_all-append is_formed front (part ∷ back)) ∙ sym (list_all_map is_formed parts) ∙ shape.1) in
      let formed = and_parts (is_formed part) (list_all is_formed back) all_formed.1 in
      let all_plain = and_parts (list_all samples_are_plain front) (list_all samples_are_plain (part ∷ back)) (sym (list_all-append samples_are_plain front (part ∷ back)) ∙ sym (may_stand-Chain parts ops Now) ∙ way.plain) in
      let plain = and_parts (samples_are_plain part) (list_all samples_are_plain back) all_plain.1 in
      let way_sums = and_parts (list_all is_sum ops) (list_any (λ b. b) (map (is_reached x) parts)) (sym (is_reached-Chain x parts ops) ∙ way.reached) in
      let reaches = (is_passed x part).whole reached in
      let some = (is_passed x part).some reaches in
      let all : sum (map (bare_count x) parts) ≡ 1 = sym (bare_count-Chain x parts ops) ∙ way.once in
      let by_front : sum (map (bare_count x) parts) ≡ sum (map (bare_count x) front) + sum (map (bare_count x) (part ∷ back)) =
      ap sum (map-append (bare_count x) front (part ∷ back)) ∙ sum_by-append (λ (n : ℕ). n) (map (bare_count x) front) (map (bare_count x) (part ∷ back)) in
      let by_part = counts part back in
      let none_front : sum (map (bare_count x) front) ≡ 0 = omega (arith, all, by_front, by_part, some) in
      let none_back : sum (map (bare_count x) back) ≡ 0 = omega (arith, all, by_front, by_part, some) in
      record {
        sums = way_sums.0;
        long = omega (arith, long, length-append front (part ∷ back));
        way = record { formed = formed.0; reached = reached; once = omega (arith, all, by_front, by_part, some); plain = plain.0 };
        plain_front = all_plain.0;
        plain_back = plain.1;
        beside_is = λ views. ap (λ it. seen_by views it.beside) (way_to-Chain x parts ops) ∙ beside_at ops views [] front part back none_front reaches none_back;
        value_is = λ views w.
            value_of-Chain parts ops (with_now x w views)
            ∙ ap (chain ops) (map-append (λ it. value_of it (with_now x w views)) front (part ∷ back)
            ∙ ap₂ (λ a b. a ++ value_of part (with_now x w views) ∷ b) (unread_all x w views front none_front) (unread_all x w views back none_back));
      }

-- a chain by the part in its middle, where its operators go on
pub chained_split : (ops : List ChainOp) (front : List Answer) (part : Answer) (back : List Answer) (first : Answer) (op : ChainOp) → length front < length ops → op ≡ get_or ops (length front) op
    → chained first ops (front ++ part ∷ back) ≡ chained (joined op (chained first ops front) part) (drop (suc (length front)) ops) back
chained_split [] front part back first op within is = absurd (omega (arith, within))
chained_split (o ∷ ops) [] part back first op within is = ap (λ q. chained (joined q first part) ops back) (sym is)
chained_split (o ∷ ops) (f ∷ front) part back first op within is = chained_split ops front part back (joined o first f) op (omega (arith, within)) is

-- a sum has a value only where all its parts have
abbrev IsValue : Answer → Type 0
IsValue a = (v : Value) × (a ≡ Is v)

pub joined_strict : (op : ChainOp) → is_sum op ≡ true → (a b : Answer) (u : Value) → joined op a b ≡ Is u → IsValue a × IsValue b
joined_strict Plus sum (Is v) (Is w) u e = ((v, refl), (w, refl))
joined_strict Minus sum (Is v) (Is w) u e = ((v, refl), (w, refl))
joined_strict Plus sum (Is v) (Fails kind) u e = cc
joined_strict Minus sum (Is v) (Fails kind) u e = cc
joined_strict Plus sum (Is v) Absent u e = cc
joined_strict Minus sum (Is v) Absent u e = cc
joined_strict Plus sum (Fails kind) b u e = cc
joined_strict Minus sum (Fails kind) b u e = cc
joined_strict Plus sum Absent b u e = cc
joined_strict Minus sum Absent b u e = cc
joined_strict Times sum a b u e = cc
joined_strict Over sum a b u e = cc
joined_strict And sum a b u e = cc
joined_strict Or sum a b u e = cc

pub strict : (ops : List ChainOp) (parts : List Answer) (a : Answer) (v : Value) → list_all is_sum ops ≡ true → length parts ≡ length ops → chained a ops parts ≡ Is v → IsValue a × AreValues parts
strict [] [] a v sums long e = ((v, e), tt)
strict [] (p ∷ parts) a v sums long e = absurd (omega (arith, long))
strict (op ∷ ops) [] a v sums long e = absurd (omega (arith, long))
strict (op ∷ ops) (p ∷ parts) a v sums long e =
    let both = and_parts (is_sum op) (list_all is_sum ops) sums in
    let rest = strict ops parts (joined op a p) v both.1 (omega (arith, long)) e in
    let here = joined_strict op both.0 a p rest.0.0 rest.0.1 in
    (here.0, (here.1, rest.1))
