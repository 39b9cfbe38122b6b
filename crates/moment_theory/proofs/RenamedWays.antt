-- In an expression with other numbers, a name that keeps a number of its own stands where it stood, is reached as it was, and has the same parts beside its way.
use Rattle.std.proofs.Common.{◌≡◌, refl, ap, ap₂, ◌∙◌, sym, subst, ℕ, ◌+◌, ◌==◌, ◌&&◌, ◌||◌, Bool, true, false, List, [], ◌∷◌, ◌++◌, map, flat_map, sum, ◌⊎◌, inl, inr}
use Rattle.std.specs.List.{list_any, list_all}
use Rattle.std.proofs.lemmas.Bool.Decides.{eqb_tells}
use Rattle.sync_values.specs.declared.value.ChainOp.{ChainOp}
use Rattle.flat_model.specs.declared.equation.Equation.{Equation}
use Rattle.flat_model.specs.declared.equation.Equation.TheVariants.{Valued, Clocks}
use Rattle.flat_model.specs.declared.expression.Expr.{Expr}
use Rattle.flat_model.specs.declared.clock.ClockExpr.{ClockExpr}
use Rattle.flat_model.specs.declared.clock.ClockExpr.TheOpen.{Expr-F}
use Rattle.flat_model.specs.declared.clock.ClockExpr.TheViews.{roll-Expr}
use Rattle.flat_model.specs.declared.clock.ClockExpr.TheFolds.{ind-Expr, fold-roll-Expr, map-Expr}
use Rattle.flat_model.specs.Functions.{called}
use Rattle.flat_model.specs.Meaning.{Meaning, meaning_of_level, seen_by}
use Rattle.flat_model.specs.Occurrences.{one_if, is_sum, bare_in_level, held_in_level, converted_in_level, reached_in_level, bare_count, held_count, converted_count, is_reached}
use Rattle.flat_model.specs.Operators.{chain, negated, inverted, relation, chosen}
use Rattle.flat_model.specs.Ways.{Way, beside_of, prefix_of, beside_in_chain, meanings_of, level_of_meanings, reaches_through, beside_through, way_through, way_to, parts_beside}
use Rattle.flat_model.specs.Uses.{IsSolvableFor}
use Rattle.flat_model.specs.Views.{Views, before}
use Rattle.moment_theory.specs.Renamed.{renamed_level, renamed, renamed_equation, views_through, HasOwnNumber}
use Rattle.moment_theory.proofs.PartsRest.{seen_append}
use Rattle.moment_theory.proofs.Renamed.{renamed_roll}

bare_roll : (x : ℕ) (y : Expr-F ClockExpr Expr) → bare_count x (roll-Expr y) ≡ bare_in_level x (map-Expr ClockExpr Expr (Unit {0}) ℕ (λ _. tt) (bare_count x) y)
unfolding bare_count
bare_roll x y = fold-roll-Expr (Unit {0}) ℕ (λ _. tt) (bare_in_level x) y

held_roll : (x : ℕ) (y : Expr-F ClockExpr Expr) → held_count x (roll-Expr y) ≡ held_in_level x (map-Expr ClockExpr Expr (Unit {0}) ℕ (λ _. tt) (held_count x) y)
unfolding held_count
held_roll x y = fold-roll-Expr (Unit {0}) ℕ (λ _. tt) (held_in_level x) y

converted_roll : (x : ℕ) (y : Expr-F ClockExpr Expr) → converted_count x (roll-Expr y) ≡ converted_in_level x (map-Expr ClockExpr Expr (Unit {0}) ℕ (λ _. tt) (converted_count x) y)
unfolding converted_count
converted_roll x y = fold-roll-Expr (Unit {0}) ℕ (λ _. tt) (converted_in_level x) y

reached_roll : (x : ℕ) (y : Expr-F ClockExpr Expr) → is_reached x (roll-Expr y) ≡ reached_in_level x (map-Expr ClockExpr Expr (Unit {0}) Bool (λ _. tt) (is_reached x) y)
unfolding is_reached
reached_roll x y = fold-roll-Expr (Unit {0}) Bool (λ _. tt) (reached_in_level x) y

way_roll : (x : ℕ) (y : Expr-F ClockExpr Expr) → way_to x (roll-Expr y) ≡ way_through x (map-Expr ClockExpr Expr (Unit {0}) Way (λ _. tt) (way_to x) y)
unfolding way_to
way_roll x y = fold-roll-Expr (Unit {0}) Way (λ _. tt) (way_through x) y

module _ (place : ℕ → ℕ) (x : ℕ) (own : HasOwnNumber place x) where
  same_test : (y : ℕ) → (place y == place x) ≡ (y == x)
  same_test y = by_cases (eqb_tells y x) (eqb_tells (place y) (place x))
    where
      by_cases : ((y == x ≡ true) × (y ≡ x)) ⊎ ((y == x ≡ false) × (y ≡ x → ⊥)) → ((place y == place x ≡ true) × (place y ≡ place x)) ⊎ ((place y == place x ≡ false) × (place y ≡ place x → ⊥)) → (place y == place x) ≡ (y == x)
      by_cases (inl (e, is)) (inl (f, at)) = f ∙ sym e
      by_cases (inl (e, is)) (inr (f, other)) = absurd (other (ap place is))
      by_cases (inr (e, other)) (inl (f, at)) = absurd (other (own y at))
      by_cases (inr (e, other)) (inr (f, at)) = f ∙ sym e

  same_one : (y : ℕ) → one_if (place y == place x) ≡ one_if (y == x)
  same_one y = ap one_if (same_test y)

  -- the way of a renamed expression is the way of the expression, seen through the renaming
  record IsSameWay (renamed_way way : Way) : Type 0 where
    reaches : renamed_way.reaches ≡ way.reaches
    meaning : (views : Views) → renamed_way.meaning views ≡ way.meaning (views_through place views)
    beside : (views : Views) → seen_by views renamed_way.beside ≡ seen_by (views_through place views) way.beside

  record IsKept (e : Expr) : Type 0 where
    bare : bare_count (place x) (renamed place e) ≡ bare_count x e
    held : held_count (place x) (renamed place e) ≡ held_count x e
    converted : converted_count (place x) (renamed place e) ≡ converted_count x e
    reached : is_reached (place x) (renamed place e) ≡ is_reached x e
    way : IsSameWay (way_to (place x) (renamed place e)) (way_to x e)

  beside_same : (v w : Way) → IsSameWay v w → (views : Views) → seen_by views (beside_of v) ≡ seen_by (views_through place views) (beside_of w)
  beside_same v w same views = by_reach v.reaches refl
    where
      by_reach : (b : Bool) → v.reaches ≡ b → seen_by views (beside_of v) ≡ seen_by (views_through place views) (beside_of w)
      by_reach true e = let f : w.reaches ≡ true = sym same.reaches ∙ e in rw (e, f) (same.beside views)
      by_reach false e = let f : w.reaches ≡ false = sym same.reaches ∙ e in rw (e, f) (ap (λ a. a ∷ []) (same.meaning views))

  module _ {A B : Type 0} (f : A → ClockExpr) (g : B → Expr) (all : (b : B) → IsKept (g b)) where
    abbrev locals : List B → List Expr
    locals ps = map (renamed place) (map g ps)

    abbrev globals : List B → List Expr
    globals ps = map g ps

    bares : (ps : List B) → map (bare_count (place x)) (locals ps) ≡ map (bare_count x) (globals ps)
    bares [] = refl
    bares (p ∷ ps) = ap₂ (λ n ns. n ∷ ns) (all p).bare (bares ps)

    helds : (ps : List B) → map (held_count (place x)) (locals ps) ≡ map (held_count x) (globals ps)
    helds [] = refl
    helds (p ∷ ps) = ap₂ (λ n ns. n ∷ ns) (all p).held (helds ps)

    converteds : (ps : List B) → map (converted_count (place x)) (locals ps) ≡ map (converted_count x) (globals ps)
    converteds [] = refl
    converteds (p ∷ ps) = ap₂ (λ n ns. n ∷ ns) (all p).converted (converteds ps)

    reacheds : (ps : List B) → map (is_reached (place x)) (locals ps) ≡ map (is_reached x) (globals ps)
    reacheds [] = refl
    reacheds (p ∷ ps) = ap₂ (λ n ns. n ∷ ns) (all p).reached (reacheds ps)

    abbrev local_ways : List B → List Way
    local_ways ps = map (way_to (place x)) (locals ps)

    abbrev global_ways : List B → List Way
    global_ways ps = map (way_to x) (globals ps)

    meanings : (ps : List B) (views : Views) → seen_by views (meanings_of (local_ways ps)) ≡ seen_by (views_through place views) (meanings_of (global_ways ps))
    meanings [] views = refl
    meanings (p ∷ ps) views = ap₂ (λ a rest. a ∷ rest) ((all p).way.meaning views) (meanings ps views)

    any_reaches : (ps : List B) → list_any (λ way. way.reaches) (local_ways ps) ≡ list_any (λ way. way.reaches) (global_ways ps)
    any_reaches [] = refl
    any_reaches (p ∷ ps) = ap₂ (λ a b. a || b) (all p).way.reaches (any_reaches ps)

    both_seen : (views : Views) (xs ys us vs : List Meaning) → seen_by views xs ≡ seen_by (views_through place views) us → seen_by views ys ≡ seen_by (views_through place views) vs
        → seen_by views (xs ++ ys) ≡ seen_by (views_through place views) (us ++ vs)
    both_seen views xs ys us vs one two = seen_append views xs ys ∙ ap₂ (λ a b. a ++ b) one two ∙ sym (seen_append (views_through place views) us vs)

    rest_beside : (ps : List B) (views : Views) → seen_by views (flat_map beside_of (local_ways ps)) ≡ seen_by (views_through place views) (flat_map beside_of (global_ways ps))
    rest_beside [] views = refl
    rest_beside (p ∷ ps) views = both_seen views (beside_of (way_to (place x) (renamed place (g p)))) (flat_map beside_of (local_ways ps)) (beside_of (way_to x (g p))) (flat_map beside_of (global_ways ps))
        (beside_same (way_to (place x) (renamed place (g p))) (way_to x (g p)) (all p).way views) (rest_beside ps views)

    prefix_beside : (ops : List ChainOp) (us vs : List Meaning) (views : Views) → seen_by views us ≡ seen_by (views_through place views) vs → seen_by views (prefix_of ops us) ≡ seen_by (views_through place views) (prefix_of ops vs)
    prefix_beside ops [] [] views same = refl
    prefix_beside ops (u ∷ us) (v ∷ vs) views same = ap (λ answers. chain ops answers ∷ []) same
    prefix_beside ops [] (v ∷ vs) views same = absurd cc
    prefix_beside ops (u ∷ us) [] views same = absurd cc

    chain_beside : (ops : List ChainOp) (us vs : List Meaning) (ps : List B) (views : Views) → seen_by views us ≡ seen_by (views_through place views) vs
        → seen_by views (beside_in_chain ops us (local_ways ps)) ≡ seen_by (views_through place views) (beside_in_chain ops vs (global_ways ps))
    chain_beside ops us vs [] views same = prefix_beside ops us vs views same
    chain_beside ops us vs (p ∷ ps) views same = by_reach (way_to (place x) (renamed place (g p))).reaches refl
        (chain_beside ops (us ++ (way_to (place x) (renamed place (g p))).meaning ∷ []) (vs ++ (way_to x (g p)).meaning ∷ []) ps views
        (both_seen views us ((way_to (place x) (renamed place (g p))).meaning ∷ []) vs ((way_to x (g p)).meaning ∷ []) same (ap (λ a. a ∷ []) ((all p).way.meaning views))))
      where
        by_reach : (b : Bool) → (way_to (place x) (renamed place (g p))).reaches ≡ b
            → seen_by views (beside_in_chain ops (us ++ (way_to (place x) (renamed place (g p))).meaning ∷ []) (local_ways ps))
            ≡ seen_by (views_through place views) (beside_in_chain ops (vs ++ (way_to x (g p)).meaning ∷ []) (global_ways ps))
            → seen_by views (beside_in_chain ops us (local_ways (p ∷ ps))) ≡ seen_by (views_through place views) (beside_in_chain ops vs (global_ways (p ∷ ps)))
        by_reach true e later =
            let there : (way_to x (g p)).reaches ≡ true = sym (all p).way.reaches ∙ e in
            rw (e, there) (both_seen views (prefix_of ops us ++ (way_to (place x) (renamed place (g p))).beside) (flat_map beside_of (local_ways ps)) (prefix_of ops vs ++ (way_to x (g p)).beside) (flat_map beside_of (global_ways ps))
            (both_seen views (prefix_of ops us) (way_to (place x) (renamed place (g p))).beside (prefix_of ops vs) (way_to x (g p)).beside (prefix_beside ops us vs views same) ((all p).way.beside views)) (rest_beside ps views))
        by_reach false e later =
            let there : (way_to x (g p)).reaches ≡ false = sym (all p).way.reaches ∙ e in
            rw (e, there) later

    -- a level with other numbers
    abbrev local : Expr-F A B → Expr-F ClockExpr Expr
    local y = renamed_level place (map-Expr ClockExpr Expr (Unit {0}) Expr (λ _. tt) (renamed place) (map-Expr A B ClockExpr Expr f g y))

    abbrev global : Expr-F A B → Expr-F ClockExpr Expr
    global y = map-Expr A B ClockExpr Expr f g y

    abbrev counted : (Expr → ℕ) → Expr-F ClockExpr Expr → Expr-F (Unit {0}) ℕ
    counted count y = map-Expr ClockExpr Expr (Unit {0}) ℕ (λ _. tt) count y

    level_bare : (y : Expr-F A B) → bare_in_level (place x) (counted (bare_count (place x)) (local y)) ≡ bare_in_level x (counted (bare_count x) (global y))
    level_bare (Expr-F.Const v) = refl
    level_bare (Expr-F.Read n) = same_one n
    level_bare (Expr-F.Chain ps ops) = ap sum (bares ps)
    level_bare (Expr-F.Relation rel a b) = ap₂ (λ m n. m + n) (all a).bare (all b).bare
    level_bare (Expr-F.Neg a) = (all a).bare
    level_bare (Expr-F.Not a) = (all a).bare
    level_bare (Expr-F.If cs bs other) = ap₂ (λ m n. m + n) (ap₂ (λ m n. m + n) (ap sum (bares cs)) (ap sum (bares bs))) (all other).bare
    level_bare (Expr-F.Apply function ps) = ap sum (bares ps)
    level_bare (Expr-F.Previous n) = refl
    level_bare (Expr-F.FirstTick n) = refl
    level_bare (Expr-F.IntervalTimes n k) = refl
    level_bare (Expr-F.Hold n) = refl
    level_bare (Expr-F.«Expr::Convert» conversion n) = refl
    level_bare (Expr-F.Sample a clock) = refl

    level_held : (y : Expr-F A B) → held_in_level (place x) (counted (held_count (place x)) (local y)) ≡ held_in_level x (counted (held_count x) (global y))
    level_held (Expr-F.Const v) = refl
    level_held (Expr-F.Read n) = refl
    level_held (Expr-F.Chain ps ops) = ap sum (helds ps)
    level_held (Expr-F.Relation rel a b) = ap₂ (λ m n. m + n) (all a).held (all b).held
    level_held (Expr-F.Neg a) = (all a).held
    level_held (Expr-F.Not a) = (all a).held
    level_held (Expr-F.If cs bs other) = ap₂ (λ m n. m + n) (ap₂ (λ m n. m + n) (ap sum (helds cs)) (ap sum (helds bs))) (all other).held
    level_held (Expr-F.Apply function ps) = ap sum (helds ps)
    level_held (Expr-F.Previous n) = refl
    level_held (Expr-F.FirstTick n) = refl
    level_held (Expr-F.IntervalTimes n k) = refl
    level_held (Expr-F.Hold n) = same_one n
    level_held (Expr-F.«Expr::Convert» conversion n) = refl
    level_held (Expr-F.Sample a clock) = refl

    level_converted : (y : Expr-F A B) → converted_in_level (place x) (counted (converted_count (place x)) (local y)) ≡ converted_in_level x (counted (converted_count x) (global y))
    level_converted (Expr-F.Const v) = refl
    level_converted (Expr-F.Read n) = refl
    level_converted (Expr-F.Chain ps ops) = ap sum (converteds ps)
    level_converted (Expr-F.Relation rel a b) = ap₂ (λ m n. m + n) (all a).converted (all b).converted
    level_converted (Expr-F.Neg a) = (all a).converted
    level_converted (Expr-F.Not a) = (all a).converted
    level_converted (Expr-F.If cs bs other) = ap₂ (λ m n. m + n) (ap₂ (λ m n. m + n) (ap sum (converteds cs)) (ap sum (converteds bs))) (all other).converted
    level_converted (Expr-F.Apply function ps) = ap sum (converteds ps)
    level_converted (Expr-F.Previous n) = refl
    level_converted (Expr-F.FirstTick n) = refl
    level_converted (Expr-F.IntervalTimes n k) = refl
    level_converted (Expr-F.Hold n) = refl
    level_converted (Expr-F.«Expr::Convert» conversion n) = same_one n
    level_converted (Expr-F.Sample a clock) = refl

    level_reached : (y : Expr-F A B) → reached_in_level (place x) (map-Expr ClockExpr Expr (Unit {0}) Bool (λ _. tt) (is_reached (place x)) (local y)) ≡ reached_in_level x (map-Expr ClockExpr Expr (Unit {0}) Bool (λ _. tt) (is_reached x) (global y))
    level_reached (Expr-F.Const v) = refl
    level_reached (Expr-F.Read n) = same_test n
    level_reached (Expr-F.Chain ps ops) = ap (λ reached. list_all is_sum ops && list_any (λ part. part) reached) (reacheds ps)
    level_reached (Expr-F.Relation rel a b) = refl
    level_reached (Expr-F.Neg a) = (all a).reached
    level_reached (Expr-F.Not a) = (all a).reached
    level_reached (Expr-F.If cs bs other) = refl
    level_reached (Expr-F.Apply function ps) = refl
    level_reached (Expr-F.Previous n) = refl
    level_reached (Expr-F.FirstTick n) = refl
    level_reached (Expr-F.IntervalTimes n k) = refl
    level_reached (Expr-F.Hold n) = refl
    level_reached (Expr-F.«Expr::Convert» conversion n) = refl
    level_reached (Expr-F.Sample a clock) = refl

    abbrev local_way : Expr-F A B → Expr-F (Unit {0}) Way
    local_way y = map-Expr ClockExpr Expr (Unit {0}) Way (λ _. tt) (way_to (place x)) (local y)

    abbrev global_way : Expr-F A B → Expr-F (Unit {0}) Way
    global_way y = map-Expr ClockExpr Expr (Unit {0}) Way (λ _. tt) (way_to x) (global y)

    level_reaches : (y : Expr-F A B) → reaches_through (place x) (local_way y) ≡ reaches_through x (global_way y)
    level_reaches (Expr-F.Const v) = refl
    level_reaches (Expr-F.Read n) = same_test n
    level_reaches (Expr-F.Chain ps ops) = any_reaches ps
    level_reaches (Expr-F.Relation rel a b) = refl
    level_reaches (Expr-F.Neg a) = (all a).way.reaches
    level_reaches (Expr-F.Not a) = (all a).way.reaches
    level_reaches (Expr-F.If cs bs other) = refl
    level_reaches (Expr-F.Apply function ps) = refl
    level_reaches (Expr-F.Previous n) = refl
    level_reaches (Expr-F.FirstTick n) = refl
    level_reaches (Expr-F.IntervalTimes n k) = refl
    level_reaches (Expr-F.Hold n) = refl
    level_reaches (Expr-F.«Expr::Convert» conversion n) = refl
    level_reaches (Expr-F.Sample a clock) = refl

    level_meaning : (y : Expr-F A B) (views : Views) → meaning_of_level (level_of_meanings (local_way y)) views ≡ meaning_of_level (level_of_meanings (global_way y)) (views_through place views)
    level_meaning (Expr-F.Const v) views = refl
    level_meaning (Expr-F.Read n) views = refl
    level_meaning (Expr-F.Chain ps ops) views = ap (chain ops) (meanings ps views)
    level_meaning (Expr-F.Relation rel a b) views = ap₂ (relation rel) ((all a).way.meaning views) ((all b).way.meaning views)
    level_meaning (Expr-F.Neg a) views = ap negated ((all a).way.meaning views)
    level_meaning (Expr-F.Not a) views = ap inverted ((all a).way.meaning views)
    level_meaning (Expr-F.If cs bs other) views =
        ap₂ (λ c b. chosen c b ((way_to (place x) (renamed place (g other))).meaning views)) (meanings cs views) (meanings bs views)
        ∙ ap (chosen (seen_by (views_through place views) (meanings_of (global_ways cs))) (seen_by (views_through place views) (meanings_of (global_ways bs)))) ((all other).way.meaning views)
    level_meaning (Expr-F.Apply function ps) views = ap (called function) (meanings ps views)
    level_meaning (Expr-F.Previous n) views = refl
    level_meaning (Expr-F.FirstTick n) views = refl
    level_meaning (Expr-F.IntervalTimes n k) views = refl
    level_meaning (Expr-F.Hold n) views = refl
    level_meaning (Expr-F.«Expr::Convert» conversion n) views = refl
    level_meaning (Expr-F.Sample a clock) views = (all a).way.meaning (before views)

    level_beside : (y : Expr-F A B) (views : Views) → seen_by views (beside_through (local_way y)) ≡ seen_by (views_through place views) (beside_through (global_way y))
    level_beside (Expr-F.Const v) views = refl
    level_beside (Expr-F.Read n) views = refl
    level_beside (Expr-F.Chain ps ops) views = chain_beside ops [] [] ps views refl
    level_beside (Expr-F.Relation rel a b) views = refl
    level_beside (Expr-F.Neg a) views = (all a).way.beside views
    level_beside (Expr-F.Not a) views = (all a).way.beside views
    level_beside (Expr-F.If cs bs other) views = refl
    level_beside (Expr-F.Apply function ps) views = refl
    level_beside (Expr-F.Previous n) views = refl
    level_beside (Expr-F.FirstTick n) views = refl
    level_beside (Expr-F.IntervalTimes n k) views = refl
    level_beside (Expr-F.Hold n) views = refl
    level_beside (Expr-F.«Expr::Convert» conversion n) views = refl
    level_beside (Expr-F.Sample a clock) views = refl

    rolled : (y : Expr-F A B) → IsKept (roll-Expr (map-Expr A B ClockExpr Expr f g y))
    rolled y =
        let z = global y in
        let is : renamed place (roll-Expr z) ≡ roll-Expr (local y) = renamed_roll place z in
        let here : way_to (place x) (renamed place (roll-Expr z)) ≡ way_through (place x) (local_way y) = ap (way_to (place x)) is ∙ way_roll (place x) (local y) in record {
          bare = ap (bare_count (place x)) is ∙ bare_roll (place x) (local y) ∙ level_bare y ∙ sym (bare_roll x z);
          held = ap (held_count (place x)) is ∙ held_roll (place x) (local y) ∙ level_held y ∙ sym (held_roll x z);
          converted = ap (converted_count (place x)) is ∙ converted_roll (place x) (local y) ∙ level_converted y ∙ sym (converted_roll x z);
          reached = ap (is_reached (place x)) is ∙ reached_roll (place x) (local y) ∙ level_reached y ∙ sym (reached_roll x z);
          way = record {
            reaches = ap (λ way. way.reaches) here ∙ level_reaches y ∙ sym (ap (λ way. way.reaches) (way_roll x z));
            meaning = λ views. ap (λ way. way.meaning views) here ∙ level_meaning y views ∙ sym (ap (λ way. way.meaning (views_through place views)) (way_roll x z));
            beside = λ views. ap (λ way. seen_by views way.beside) here ∙ level_beside y views ∙ sym (ap (λ way. seen_by (views_through place views) way.beside) (way_roll x z));
          };
        }

  kept : (e : Expr) → IsKept e
  kept = ind-Expr (λ c. Unit {0}) IsKept (λ a b is. tt) (λ a y is. subst (λ z. IsKept (roll-Expr z)) is (rolled (λ c. c.0) (λ e. e.0) (λ e. e.1) y))

  both_counts : (a b c d p q : ℕ) → a ≡ b → c ≡ d → p ≡ q → a + c + p ≡ b + d + q
  both_counts a b c d p q one two three = ap₂ (λ m n. m + n) (ap₂ (λ m n. m + n) one two) three

  pub solvable_renamed : (equation : Equation) → IsSolvableFor x equation → IsSolvableFor (place x) (renamed_equation place equation)
  solvable_renamed (Clocks left right clause) solvable = solvable
  solvable_renamed (Valued left right clause) (once, reached) = (
    ap₂ (λ m n. m + n) (both_counts _ _ _ _ _ _ (kept left).bare (kept left).held (kept left).converted) (both_counts _ _ _ _ _ _ (kept right).bare (kept right).held (kept right).converted) ∙ once,
    elim reached [
      | inl own_left ↦ inl ((kept left).reached ∙ own_left)
      | inr own_right ↦ inr ((kept right).reached ∙ own_right)
    ],
  )

  pub parts_renamed : (equation : Equation) (views : Views) → seen_by views (parts_beside (place x) (renamed_equation place equation)) ≡ seen_by (views_through place views) (parts_beside x equation)
  parts_renamed (Clocks left right clause) views = refl
  parts_renamed (Valued left right clause) views =
      seen_append views (beside_of (way_to (place x) (renamed place left))) (beside_of (way_to (place x) (renamed place right)))
      ∙ ap₂ (λ a b. a ++ b) (beside_same (way_to (place x) (renamed place left)) (way_to x left) (kept left).way views) (beside_same (way_to (place x) (renamed place right)) (way_to x right) (kept right).way views)
      ∙ sym (seen_append (views_through place views) (beside_of (way_to x left)) (beside_of (way_to x right)))
