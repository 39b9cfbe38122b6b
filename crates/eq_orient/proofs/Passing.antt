-- What a way passes: the name stands bare in what reaches it, and what reaches by the text of the kinds reaches by the parts.
use Rattle.std.proofs.Common.{◌≡◌, refl, ap, ap₂, ◌∙◌, sym, subst, ℕ, ◌<◌, ◌==◌, ◌||◌, Bool, true, false, List, [], ◌∷◌, map, sum, arith}
use Rattle.std.specs.List.{list_any, list_all}
use Rattle.std.proofs.lemmas.Bool.{false≢true, and_parts}
use Rattle.std.proofs.lemmas.List.Sums.{sum_by-cons}
use Rattle.flat_model.specs.declared.expression.Expr.{Expr}
use Rattle.flat_model.specs.declared.clock.ClockExpr.{ClockExpr}
use Rattle.flat_model.specs.declared.clock.ClockExpr.TheOpen.{Expr-F}
use Rattle.flat_model.specs.declared.clock.ClockExpr.TheViews.{roll-Expr}
use Rattle.flat_model.specs.declared.clock.ClockExpr.TheFolds.{ind-Expr, fold-roll-Expr, map-Expr}
use Rattle.flat_model.specs.Occurrences.{one_if, is_sum, bare_in_level, bare_count, reached_in_level, is_reached}
use Rattle.flat_model.specs.Operators.{chain, negated, inverted, relation, chosen}
use Rattle.flat_model.specs.Functions.{called}
use Rattle.flat_model.specs.Views.{Views, before}
use Rattle.flat_model.specs.Meaning.{Meaning, meaning_of_level, seen_by, value_of}
use Rattle.flat_model.specs.Ways.{Way, meanings_of, level_of_meanings, reaches_through, way_through, way_to}

way_to_roll : (x : ℕ) (y : Expr-F ClockExpr Expr) → way_to x (roll-Expr y) ≡ way_through x (map-Expr ClockExpr Expr (Unit {0}) Way (λ _. tt) (way_to x) y)
unfolding way_to
way_to_roll x y = fold-roll-Expr (Unit {0}) Way (λ _. tt) (way_through x) y

value_roll : (y : Expr-F ClockExpr Expr) (views : Views) → value_of (roll-Expr y) views ≡ meaning_of_level (map-Expr ClockExpr Expr (Unit {0}) Meaning (λ _. tt) value_of y) views
unfolding value_of
value_roll y views = ap (λ f. f views) (fold-roll-Expr (Unit {0}) Meaning (λ _. tt) meaning_of_level y)

reached_roll : (x : ℕ) (y : Expr-F ClockExpr Expr) → is_reached x (roll-Expr y) ≡ reached_in_level x (map-Expr ClockExpr Expr (Unit {0}) Bool (λ _. tt) (is_reached x) y)
unfolding is_reached
reached_roll x y = fold-roll-Expr (Unit {0}) Bool (λ _. tt) (reached_in_level x) y

bare_roll : (x : ℕ) (y : Expr-F ClockExpr Expr) → bare_count x (roll-Expr y) ≡ bare_in_level x (map-Expr ClockExpr Expr (Unit {0}) ℕ (λ _. tt) (bare_count x) y)
unfolding bare_count
bare_roll x y = fold-roll-Expr (Unit {0}) ℕ (λ _. tt) (bare_in_level x) y

one_of : (b : Bool) → b ≡ true → 0 < one_if b
one_of true e = omega arith
one_of false e = absurd (false≢true e)

pub record IsPassed (x : ℕ) (e : Expr) : Type 0 where
  pub some : (way_to x e).reaches ≡ true → 0 < bare_count x e
  pub means : (views : Views) → (way_to x e).meaning views ≡ value_of e views
  pub whole : is_reached x e ≡ true → (way_to x e).reaches ≡ true

module _ {A B : Type 0} (x : ℕ) (f : A → ClockExpr) (g : B → Expr) (all : (b : B) → IsPassed x (g b)) where
  abbrev level_way : Expr-F ClockExpr Expr → Expr-F (Unit {0}) Way
  level_way y = map-Expr ClockExpr Expr (Unit {0}) Way (λ _. tt) (way_to x) y

  parts_some : (ps : List B) → list_any (λ way. way.reaches) (map (way_to x) (map g ps)) ≡ true → 0 < sum (map (bare_count x) (map g ps))
  parts_some [] any = absurd (false≢true any)
  parts_some (p ∷ ps) any = by_reach (way_to x (g p)).reaches refl any (λ h. parts_some ps h)
    where
      by_reach : (b : Bool) → (way_to x (g p)).reaches ≡ b → b || list_any (λ way. way.reaches) (map (way_to x) (map g ps)) ≡ true
          → (list_any (λ way. way.reaches) (map (way_to x) (map g ps)) ≡ true → 0 < sum (map (bare_count x) (map g ps))) → 0 < sum (map (bare_count x) (map g (p ∷ ps)))
      by_reach true r h rest = omega (arith, (all p).some r, sum_by-cons (λ (n : ℕ). n) (bare_count x (g p)) (map (bare_count x) (map g ps)))
      by_reach false r h rest = omega (arith, rest h, sum_by-cons (λ (n : ℕ). n) (bare_count x (g p)) (map (bare_count x) (map g ps)))

  parts_whole : (ps : List B) → list_any (λ part. part) (map (is_reached x) (map g ps)) ≡ true → list_any (λ way. way.reaches) (map (way_to x) (map g ps)) ≡ true
  parts_whole [] any = absurd (false≢true any)
  parts_whole (p ∷ ps) any = by_reach (is_reached x (g p)) refl any (λ h. parts_whole ps h)
    where
      or_right : (a b : Bool) → b ≡ true → a || b ≡ true
      or_right true b e = refl
      or_right false b e = e

      by_reach : (b : Bool) → is_reached x (g p) ≡ b → b || list_any (λ part. part) (map (is_reached x) (map g ps)) ≡ true
          → (list_any (λ part. part) (map (is_reached x) (map g ps)) ≡ true → list_any (λ way. way.reaches) (map (way_to x) (map g ps)) ≡ true)
          → (way_to x (g p)).reaches || list_any (λ way. way.reaches) (map (way_to x) (map g ps)) ≡ true
      by_reach true r h rest = rw ((all p).whole r) refl
      by_reach false r h rest = or_right (way_to x (g p)).reaches (list_any (λ way. way.reaches) (map (way_to x) (map g ps))) (rest h)

  parts_mean : (ps : List B) (views : Views) → seen_by views (meanings_of (map (way_to x) (map g ps))) ≡ seen_by views (map value_of (map g ps))
  parts_mean [] views = refl
  parts_mean (p ∷ ps) views = ap₂ (λ a rest. a ∷ rest) ((all p).means views) (parts_mean ps views)

  abbrev level_some_at : Expr-F A B → Type 0
  level_some_at y = reaches_through x (level_way (map-Expr A B ClockExpr Expr f g y)) ≡ true → 0 < bare_in_level x (map-Expr ClockExpr Expr (Unit {0}) ℕ (λ _. tt) (bare_count x) (map-Expr A B ClockExpr Expr f g y))

  level_some : (y : Expr-F A B) → level_some_at y
  level_some (Expr-F.Const v) r = absurd (false≢true r)
  level_some (Expr-F.Read n) r = one_of (n == x) r
  level_some (Expr-F.Chain ps ops) r = parts_some ps r
  level_some (Expr-F.Relation rel a b) r = absurd (false≢true r)
  level_some (Expr-F.Neg a) r = (all a).some r
  level_some (Expr-F.Not a) r = (all a).some r
  level_some (Expr-F.If cs bs other) r = absurd (false≢true r)
  level_some (Expr-F.Apply function ps) r = absurd (false≢true r)
  level_some (Expr-F.Previous n) r = absurd (false≢true r)
  level_some (Expr-F.FirstTick n) r = absurd (false≢true r)
  level_some (Expr-F.IntervalTimes n k) r = absurd (false≢true r)
  level_some (Expr-F.Hold n) r = absurd (false≢true r)
  level_some (Expr-F.«Expr::Convert» conversion n) r = absurd (false≢true r)
  level_some (Expr-F.Sample a clock) r = absurd (false≢true r)

  level_whole : (y : Expr-F A B) → reached_in_level x (map-Expr ClockExpr Expr (Unit {0}) Bool (λ _. tt) (is_reached x) (map-Expr A B ClockExpr Expr f g y)) ≡ true
      → reaches_through x (level_way (map-Expr A B ClockExpr Expr f g y)) ≡ true
  level_whole (Expr-F.Const v) r = absurd (false≢true r)
  level_whole (Expr-F.Read n) r = r
  level_whole (Expr-F.Chain ps ops) r = parts_whole ps (and_parts (list_all is_sum ops) (list_any (λ part. part) (map (is_reached x) (map g ps))) r).1
  level_whole (Expr-F.Relation rel a b) r = absurd (false≢true r)
  level_whole (Expr-F.Neg a) r = (all a).whole r
  level_whole (Expr-F.Not a) r = (all a).whole r
  level_whole (Expr-F.If cs bs other) r = absurd (false≢true r)
  level_whole (Expr-F.Apply function ps) r = absurd (false≢true r)
  level_whole (Expr-F.Previous n) r = absurd (false≢true r)
  level_whole (Expr-F.FirstTick n) r = absurd (false≢true r)
  level_whole (Expr-F.IntervalTimes n k) r = absurd (false≢true r)
  level_whole (Expr-F.Hold n) r = absurd (false≢true r)
  level_whole (Expr-F.«Expr::Convert» conversion n) r = absurd (false≢true r)
  level_whole (Expr-F.Sample a clock) r = absurd (false≢true r)

  level_means : (y : Expr-F A B) (views : Views) → meaning_of_level (level_of_meanings (level_way (map-Expr A B ClockExpr Expr f g y))) views
      ≡ meaning_of_level (map-Expr ClockExpr Expr (Unit {0}) Meaning (λ _. tt) value_of (map-Expr A B ClockExpr Expr f g y)) views
  level_means (Expr-F.Const v) views = refl
  level_means (Expr-F.Read n) views = refl
  level_means (Expr-F.Chain ps ops) views = ap (chain ops) (parts_mean ps views)
  level_means (Expr-F.Relation rel a b) views = ap₂ (relation rel) ((all a).means views) ((all b).means views)
  level_means (Expr-F.Neg a) views = ap negated ((all a).means views)
  level_means (Expr-F.Not a) views = ap inverted ((all a).means views)
  level_means (Expr-F.If cs bs other) views =
      ap₂ (λ c b. chosen c b ((way_to x (g other)).meaning views)) (parts_mean cs views) (parts_mean bs views)
      ∙ ap (chosen (seen_by views (map value_of (map g cs))) (seen_by views (map value_of (map g bs)))) ((all other).means views)
  level_means (Expr-F.Apply function ps) views = ap (called function) (parts_mean ps views)
  level_means (Expr-F.Previous n) views = refl
  level_means (Expr-F.FirstTick n) views = refl
  level_means (Expr-F.IntervalTimes n k) views = refl
  level_means (Expr-F.Hold n) views = refl
  level_means (Expr-F.«Expr::Convert» conversion n) views = refl
  level_means (Expr-F.Sample a clock) views = (all a).means (before views)

  rolled : (y : Expr-F A B) → IsPassed x (roll-Expr (map-Expr A B ClockExpr Expr f g y))
  rolled y = let z = map-Expr A B ClockExpr Expr f g y in record {
    some = λ r. subst (λ n. 0 < n) (sym (bare_roll x z)) (level_some y (sym (ap (λ way. way.reaches) (way_to_roll x z)) ∙ r));
    means = λ views. ap (λ way. way.meaning views) (way_to_roll x z) ∙ level_means y views ∙ sym (value_roll z views);
    whole = λ r. ap (λ way. way.reaches) (way_to_roll x z) ∙ level_whole y (sym (reached_roll x z) ∙ r);
  }

pub is_passed : (x : ℕ) (e : Expr) → IsPassed x e
is_passed x = ind-Expr (λ c. Unit {0}) (IsPassed x) (λ a b is. tt) (λ a y is. subst (λ z. IsPassed x (roll-Expr z)) is (rolled x (λ c. c.0) (λ e. e.0) (λ e. e.1) y))
