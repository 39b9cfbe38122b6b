-- The parts beside the way to a name have the same answers where all that is asked for but that name is the same.
use Rattle.std.proofs.Common.{◌≡◌, refl, ap, ap₂, ◌∙◌, sym, subst, ℕ, ◌+◌, ◌<◌, ◌≤◌, ◌==◌, ◌||◌, Bool, true, false, List, [], ◌∷◌, ◌++◌, map, flat_map, arith, Option}
use Rattle.std.specs.List.{list_any}
use Rattle.std.proofs.lemmas.Bool.{false≢true}
use Rattle.sync_values.specs.declared.value.ChainOp.{ChainOp}
use Rattle.flat_model.specs.declared.expression.Expr.{Expr}
use Rattle.flat_model.specs.declared.equation.Equation.TheVariants.{Valued}
use Rattle.flat_model.specs.declared.clock.ClockExpr.{ClockExpr}
use Rattle.flat_model.specs.declared.clock.ClockExpr.TheOpen.{Expr-F}
use Rattle.flat_model.specs.declared.clock.ClockExpr.TheViews.{roll-Expr}
use Rattle.flat_model.specs.declared.clock.ClockExpr.TheFolds.{ind-Expr, fold-roll-Expr, map-Expr}
use Rattle.flat_model.specs.Occurrences.{one_if}
use Rattle.flat_model.specs.Operators.{chain, negated, inverted, relation, chosen}
use Rattle.flat_model.specs.Functions.{called}
use Rattle.flat_model.specs.Views.{Views, before}
use Rattle.flat_model.specs.Meaning.{Meaning, meaning_of_level, seen_by, value_of}
use Rattle.flat_model.specs.Ways.{Way, beside_of, prefix_of, beside_in_chain, meanings_of, level_of_meanings, reaches_through, beside_through, way_through, way_to, parts_beside}
use Rattle.flat_model.proofs.Above.{value_of_roll}
use Rattle.flat_model.specs.Asks.{Asking, OfNow, Asked, asked, asked_in_level, all_asked}
use Rattle.flat_model.proofs.Asks.{asked_roll, SameAt, value_rests_on_asked}

way_to_roll : (x : ℕ) (y : Expr-F ClockExpr Expr) → way_to x (roll-Expr y) ≡ way_through x (map-Expr ClockExpr Expr (Unit {0}) Way (λ _. tt) (way_to x) y)
unfolding way_to
way_to_roll x y = fold-roll-Expr (Unit {0}) Way (λ _. tt) (way_through x) y

pub seen_append : (v : Views) (xs ys : List Meaning) → seen_by v (xs ++ ys) ≡ seen_by v xs ++ seen_by v ys
seen_append v [] ys = refl
seen_append v (x ∷ xs) ys = ap (λ r. x v ∷ r) (seen_append v xs ys)

seen_both : (v w : Views) (xs ys : List Meaning) → seen_by v xs ≡ seen_by w xs → seen_by v ys ≡ seen_by w ys → seen_by v (xs ++ ys) ≡ seen_by w (xs ++ ys)
seen_both v w xs ys one two = seen_append v xs ys ∙ ap₂ (λ a b. a ++ b) one two ∙ sym (seen_append w xs ys)

prefix_same : (ops : List ChainOp) (v w : Views) (first : List Meaning) → seen_by v first ≡ seen_by w first → seen_by v (prefix_of ops first) ≡ seen_by w (prefix_of ops first)
prefix_same ops v w [] same = refl
prefix_same ops v w (a ∷ first) same = ap (λ r. chain ops r ∷ []) same

module _ (x : ℕ) where
  -- all that is asked for is the same, but the value of x now
  abbrev pub SameBut : Asked → Views → Views → Type 0
  SameBut asks v w = (d : ℕ) (q : Asking) → 0 < asks d q → ((d ≡ 0) × (q ≡ OfNow x) → ⊥) → SameAt v w d q

  abbrev pub count : Expr → ℕ
  count e = asked e 0 (OfNow x)

  pub same_without : (e : Expr) (v w : Views) → count e ≡ 0 → SameBut (asked e) v w → value_of e v ≡ value_of e w
  same_without e v w none same = value_rests_on_asked e v w (λ d q some. same d q some (λ is. absurd (clash d q is.0 is.1 some)))
    where
      clash : (d : ℕ) (q : Asking) → d ≡ 0 → q ≡ OfNow x → 0 < asked e d q → ⊥
      clash d q at is some = let h : 0 < asked e 0 (OfNow x) = subst (λ k. 0 < asked e k (OfNow x)) at (subst (λ r. 0 < asked e d r) is some) in omega (arith, h, none)

  pub record IsWay (e : Expr) : Type 0 where
    pub some : (way_to x e).reaches ≡ true → 0 < count e
    pub means : (views : Views) → (way_to x e).meaning views ≡ value_of e views
    pub beside : (v w : Views) → SameBut (asked e) v w → count e ≤ 1 → (way_to x e).reaches ≡ true → seen_by v (way_to x e).beside ≡ seen_by w (way_to x e).beside

  -- what stands beside the way where x is not in an expression is the expression
  beside_none : (e : Expr) → IsWay e → (v w : Views) → count e ≡ 0 → SameBut (asked e) v w → seen_by v (beside_of (way_to x e)) ≡ seen_by w (beside_of (way_to x e))
  beside_none e way v w none same = by_reach (way_to x e).reaches refl
    where
      by_reach : (b : Bool) → (way_to x e).reaches ≡ b → seen_by v (beside_of (way_to x e)) ≡ seen_by w (beside_of (way_to x e))
      by_reach true r = absurd (omega (arith, way.some r, none))
      by_reach false r = rw r (ap (λ a. a ∷ []) (way.means v ∙ same_without e v w none same ∙ sym (way.means w)))

  abbrev level_way : Expr-F ClockExpr Expr → Expr-F (Unit {0}) Way
  level_way y = map-Expr ClockExpr Expr (Unit {0}) Way (λ _. tt) (way_to x) y

  abbrev level_asked : Expr-F ClockExpr Expr → Asked
  level_asked y = asked_in_level (map-Expr ClockExpr Expr (Unit {0}) Asked (λ _. tt) asked y)

  one_of : (b : Bool) → b ≡ true → 0 < one_if b
  one_of true e = omega arith
  one_of false e = absurd (false≢true e)

  module _ {A B : Type 0} (f : A → ClockExpr) (g : B → Expr) (all : (b : B) → IsWay (g b)) where
    parts_some : (ps : List B) → list_any (λ way. way.reaches) (map (way_to x) (map g ps)) ≡ true → 0 < all_asked (map asked (map g ps)) 0 (OfNow x)
    parts_some [] any = absurd (false≢true any)
    parts_some (p ∷ ps) any = by_reach (way_to x (g p)).reaches refl any (λ h. parts_some ps h)
      where
        by_reach : (b : Bool) → (way_to x (g p)).reaches ≡ b → b || list_any (λ way. way.reaches) (map (way_to x) (map g ps)) ≡ true
            → (list_any (λ way. way.reaches) (map (way_to x) (map g ps)) ≡ true → 0 < all_asked (map asked (map g ps)) 0 (OfNow x)) → 0 < all_asked (map asked (map g (p ∷ ps))) 0 (OfNow x)
        by_reach true r h rest = omega (arith, (all p).some r)
        by_reach false r h rest = omega (arith, rest h)

    parts_mean : (ps : List B) (views : Views) → seen_by views (meanings_of (map (way_to x) (map g ps))) ≡ seen_by views (map value_of (map g ps))
    parts_mean [] views = refl
    parts_mean (p ∷ ps) views = ap₂ (λ a rest. a ∷ rest) ((all p).means views) (parts_mean ps views)

    rest_same : (ps : List B) (v w : Views) → all_asked (map asked (map g ps)) 0 (OfNow x) ≡ 0 → SameBut (all_asked (map asked (map g ps))) v w
        → seen_by v (flat_map beside_of (map (way_to x) (map g ps))) ≡ seen_by w (flat_map beside_of (map (way_to x) (map g ps)))
    rest_same [] v w none same = refl
    rest_same (p ∷ ps) v w none same = seen_both v w (beside_of (way_to x (g p))) (flat_map beside_of (map (way_to x) (map g ps)))
        (beside_none (g p) (all p) v w (omega (arith, none)) (λ d q some other. same d q (omega (arith, some)) other))
        (rest_same ps v w (omega (arith, none)) (λ d q some other. same d q (omega (arith, some)) other))

    chain_same : (ops : List ChainOp) (first : List Meaning) (ps : List B) (v w : Views) → seen_by v first ≡ seen_by w first → all_asked (map asked (map g ps)) 0 (OfNow x) ≤ 1
        → SameBut (all_asked (map asked (map g ps))) v w → list_any (λ way. way.reaches) (map (way_to x) (map g ps)) ≡ true
        → seen_by v (beside_in_chain ops first (map (way_to x) (map g ps))) ≡ seen_by w (beside_in_chain ops first (map (way_to x) (map g ps)))
    chain_same ops first [] v w earlier few same any = absurd (false≢true any)
    chain_same ops first (p ∷ ps) v w earlier few same any = by_reach (way_to x (g p)).reaches refl any
        (λ more rest. chain_same ops (first ++ (way_to x (g p)).meaning ∷ []) ps v w more (omega (arith, few)) (λ d q some other. same d q (omega (arith, some)) other) rest)
      where
        by_reach : (b : Bool) → (way_to x (g p)).reaches ≡ b → b || list_any (λ way. way.reaches) (map (way_to x) (map g ps)) ≡ true
            → (seen_by v (first ++ (way_to x (g p)).meaning ∷ []) ≡ seen_by w (first ++ (way_to x (g p)).meaning ∷ []) → list_any (λ way. way.reaches) (map (way_to x) (map g ps)) ≡ true
            → seen_by v (beside_in_chain ops (first ++ (way_to x (g p)).meaning ∷ []) (map (way_to x) (map g ps))) ≡ seen_by w (beside_in_chain ops (first ++ (way_to x (g p)).meaning ∷ []) (map (way_to x) (map g ps))))
            → seen_by v (beside_in_chain ops first (map (way_to x) (map g (p ∷ ps)))) ≡ seen_by w (beside_in_chain ops first (map (way_to x) (map g (p ∷ ps))))
        by_reach true r h later =
            let own = (all p).some r in
            rw r (seen_both v w (prefix_of ops first ++ (way_to x (g p)).beside) (flat_map beside_of (map (way_to x) (map g ps)))
            (seen_both v w (prefix_of ops first) (way_to x (g p)).beside (prefix_same ops v w first earlier)
            ((all p).beside v w (λ d q some other. same d q (omega (arith, some)) other) (omega (arith, few)) r))
            (rest_same ps v w (omega (arith, few, own)) (λ d q some other. same d q (omega (arith, some)) other)))
        by_reach false r h later =
            let there = parts_some ps h in
            rw r (later (seen_both v w first ((way_to x (g p)).meaning ∷ []) earlier (ap (λ a. a ∷ [])
            ((all p).means v ∙ same_without (g p) v w (omega (arith, few, there)) (λ d q some other. same d q (omega (arith, some)) other) ∙ sym ((all p).means w)))) h)

    level_some : (y : Expr-F A B) → reaches_through x (level_way (map-Expr A B ClockExpr Expr f g y)) ≡ true → 0 < level_asked (map-Expr A B ClockExpr Expr f g y) 0 (OfNow x)
    level_some (Expr-F.Const v) r = absurd (false≢true r)
    level_some (Expr-F.Read n) r = one_of (n == x) r
    level_some (Expr-F.Chain ps ops) r = parts_some ps r
    level_some (Expr-F.Relation rel a b) r = absurd (false≢true r)
    level_some (Expr-F.Neg a) r = (all a).some r
    level_some (Expr-F.Not a) r = (all a).some r
    level_some (Expr-F.If cs bs other) r = absurd (false≢true r)
    level_some (Expr-F.Apply function ps) r = absurd (false≢true r)
    level_some (Expr-F.Previous n) r = absurd (false≢true r)
    level_some (Expr-F.FirstTick n) r = absurd (false≢true r)
    level_some (Expr-F.IntervalTimes n k) r = absurd (false≢true r)
    level_some (Expr-F.Hold n) r = absurd (false≢true r)
    level_some (Expr-F.«Expr::Convert» conversion n) r = absurd (false≢true r)
    level_some (Expr-F.Sample a clock) r = absurd (false≢true r)

    level_means : (y : Expr-F A B) (views : Views) → meaning_of_level (level_of_meanings (level_way (map-Expr A B ClockExpr Expr f g y))) views
        ≡ meaning_of_level (map-Expr ClockExpr Expr (Unit {0}) Meaning (λ _. tt) value_of (map-Expr A B ClockExpr Expr f g y)) views
    level_means (Expr-F.Const v) views = refl
    level_means (Expr-F.Read n) views = refl
    level_means (Expr-F.Chain ps ops) views = ap (chain ops) (parts_mean ps views)
    level_means (Expr-F.Relation rel a b) views = ap₂ (relation rel) ((all a).means views) ((all b).means views)
    level_means (Expr-F.Neg a) views = ap negated ((all a).means views)
    level_means (Expr-F.Not a) views = ap inverted ((all a).means views)
    level_means (Expr-F.If cs bs other) views =
        ap₂ (λ c b. chosen c b ((way_to x (g other)).meaning views)) (parts_mean cs views) (parts_mean bs views)
        ∙ ap (chosen (seen_by views (map value_of (map g cs))) (seen_by views (map value_of (map g bs)))) ((all other).means views)
    level_means (Expr-F.Apply function ps) views = ap (called function) (parts_mean ps views)
    level_means (Expr-F.Previous n) views = refl
    level_means (Expr-F.FirstTick n) views = refl
    level_means (Expr-F.IntervalTimes n k) views = refl
    level_means (Expr-F.Hold n) views = refl
    level_means (Expr-F.«Expr::Convert» conversion n) views = refl
    level_means (Expr-F.Sample a clock) views = (all a).means (before views)

    level_beside : (y : Expr-F A B) (v w : Views) → SameBut (level_asked (map-Expr A B ClockExpr Expr f g y)) v w → level_asked (map-Expr A B ClockExpr Expr f g y) 0 (OfNow x) ≤ 1
        → reaches_through x (level_way (map-Expr A B ClockExpr Expr f g y)) ≡ true
        → seen_by v (beside_through (level_way (map-Expr A B ClockExpr Expr f g y))) ≡ seen_by w (beside_through (level_way (map-Expr A B ClockExpr Expr f g y)))
    level_beside (Expr-F.Const c) v w same few r = refl
    level_beside (Expr-F.Read n) v w same few r = refl
    level_beside (Expr-F.Chain ps ops) v w same few r = chain_same ops [] ps v w refl few same r
    level_beside (Expr-F.Relation rel a b) v w same few r = refl
    level_beside (Expr-F.Neg a) v w same few r = (all a).beside v w same few r
    level_beside (Expr-F.Not a) v w same few r = (all a).beside v w same few r
    level_beside (Expr-F.If cs bs other) v w same few r = refl
    level_beside (Expr-F.Apply function ps) v w same few r = refl
    level_beside (Expr-F.Previous n) v w same few r = refl
    level_beside (Expr-F.FirstTick n) v w same few r = refl
    level_beside (Expr-F.IntervalTimes n k) v w same few r = refl
    level_beside (Expr-F.Hold n) v w same few r = refl
    level_beside (Expr-F.«Expr::Convert» conversion n) v w same few r = refl
    level_beside (Expr-F.Sample a clock) v w same few r = refl

    rolled : (y : Expr-F A B) → IsWay (roll-Expr (map-Expr A B ClockExpr Expr f g y))
    rolled y = let z = map-Expr A B ClockExpr Expr f g y in record {
      some = λ r. subst (λ n. 0 < n) (sym (asked_roll z 0 (OfNow x))) (level_some y (sym (ap (λ way. way.reaches) (way_to_roll x z)) ∙ r));
      means = λ views. ap (λ way. way.meaning views) (way_to_roll x z) ∙ level_means y views ∙ sym (value_of_roll z views);
      beside = λ v w same few r. ap (λ way. seen_by v way.beside) (way_to_roll x z)
          ∙ level_beside y v w (λ d q some other. same d q (subst (λ n. 0 < n) (sym (asked_roll z d q)) some) other)
          (subst (λ n. n ≤ 1) (asked_roll z 0 (OfNow x)) few) (sym (ap (λ way. way.reaches) (way_to_roll x z)) ∙ r)
          ∙ sym (ap (λ way. seen_by w way.beside) (way_to_roll x z));
    }

  pub is_way : (e : Expr) → IsWay e
  is_way = ind-Expr (λ c. Unit {0}) IsWay (λ a b is. tt) (λ a y is. subst (λ z. IsWay (roll-Expr z)) is (rolled (λ c. c.0) (λ e. e.0) (λ e. e.1) y))

  -- a side of an equation in which x stands once and is reached, or does not stand
  pub side_rests : (e : Expr) (v w : Views) → count e ≤ 1 → ((way_to x e).reaches ≡ false → count e ≡ 0) → SameBut (asked e) v w → seen_by v (beside_of (way_to x e)) ≡ seen_by w (beside_of (way_to x e))
  side_rests e v w few missed same = by_reach (way_to x e).reaches refl
    where
      by_reach : (b : Bool) → (way_to x e).reaches ≡ b → seen_by v (beside_of (way_to x e)) ≡ seen_by w (beside_of (way_to x e))
      by_reach true r = rw r ((is_way e).beside v w same few r)
      by_reach false r = beside_none e (is_way e) v w (missed r) same

  -- the parts of an equation beside the way to x
  pub parts_rest : (left right : Expr) (clause : Option ℕ) (v w : Views) → count left + count right ≤ 1 → ((way_to x left).reaches ≡ false → count left ≡ 0) → ((way_to x right).reaches ≡ false → count right ≡ 0)
      → SameBut (asked left) v w → SameBut (asked right) v w → seen_by v (parts_beside x (Valued left right clause)) ≡ seen_by w (parts_beside x (Valued left right clause))
  parts_rest left right clause v w few one two same_left same_right = seen_both v w (beside_of (way_to x left)) (beside_of (way_to x right))
      (side_rests left v w (omega (arith, few)) one same_left) (side_rests right v w (omega (arith, few)) two same_right)
