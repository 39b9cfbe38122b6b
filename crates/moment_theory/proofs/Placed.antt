-- Where names and samples stand: what stands bare stands uncut, and what may be sampled, or is a condition, has no `sample`.
use Rattle.std.proofs.Common.{◌≡◌, refl, ap, ap₂, ◌∙◌, sym, subst, ℕ, ◌+◌, ◌≤◌, Bool, true, List, [], ◌∷◌, map, sum, arith}
use Rattle.std.specs.List.{list_all}
use Rattle.std.proofs.lemmas.Bool.{false≢true, and_parts}
use Rattle.std.proofs.lemmas.List.Sums.{sum_by-cons}
use Rattle.flat_model.specs.declared.expression.Expr.{Expr}
use Rattle.flat_model.specs.declared.clock.ClockExpr.{ClockExpr}
use Rattle.flat_model.specs.declared.clock.ClockExpr.TheOpen.{Expr-F}
use Rattle.flat_model.specs.declared.clock.ClockExpr.TheViews.{roll-Expr}
use Rattle.flat_model.specs.declared.clock.ClockExpr.TheFolds.{ind-Expr, fold-roll-Expr, map-Expr}
use Rattle.flat_model.specs.declared.evaluate.Vantage.{Vantage}
use Rattle.flat_model.specs.declared.evaluate.Vantage.TheVariants.{Left}
use Rattle.flat_model.specs.Occurrences.{bare_in_level, uncut_in_level, samples_in_level, direct_level, bare_count, uncut_count, sample_count, is_direct}
use Rattle.flat_model.specs.Samples.{Standing, all_stand, standing_of_level, may_stand}

abbrev counted : (Expr → ℕ) → Expr-F ClockExpr Expr → Expr-F (Unit {0}) ℕ
counted count y = map-Expr ClockExpr Expr (Unit {0}) ℕ (λ _. tt) count y

bare_roll : (x : ℕ) (y : Expr-F ClockExpr Expr) → bare_count x (roll-Expr y) ≡ bare_in_level x (counted (bare_count x) y)
unfolding bare_count
bare_roll x y = fold-roll-Expr (Unit {0}) ℕ (λ _. tt) (bare_in_level x) y

uncut_roll : (x : ℕ) (y : Expr-F ClockExpr Expr) → uncut_count x (roll-Expr y) ≡ uncut_in_level x (counted (uncut_count x) y)
unfolding uncut_count
uncut_roll x y = fold-roll-Expr (Unit {0}) ℕ (λ _. tt) (uncut_in_level x) y

samples_roll : (y : Expr-F ClockExpr Expr) → sample_count (roll-Expr y) ≡ samples_in_level (counted sample_count y)
unfolding sample_count
samples_roll y = fold-roll-Expr (Unit {0}) ℕ (λ _. tt) samples_in_level y

direct_roll : (y : Expr-F ClockExpr Expr) → is_direct (roll-Expr y) ≡ direct_level (map-Expr ClockExpr Expr (Unit {0}) Bool (λ _. tt) is_direct y)
unfolding is_direct
direct_roll y = fold-roll-Expr (Unit {0}) Bool (λ _. tt) direct_level y

may_roll : (y : Expr-F ClockExpr Expr) (vantage : Vantage) → may_stand (roll-Expr y) vantage ≡ standing_of_level (map-Expr ClockExpr Expr (Unit {0}) Standing (λ _. tt) may_stand y) vantage
unfolding may_stand
may_roll y vantage = ap (λ f. f vantage) (fold-roll-Expr (Unit {0}) Standing (λ _. tt) standing_of_level y)

record IsPlaced (e : Expr) : Type 0 where
  uncut : (x : ℕ) → bare_count x e ≤ uncut_count x e
  left : may_stand e Left ≡ true → sample_count e ≡ 0
  direct : is_direct e ≡ true → sample_count e ≡ 0

module _ {A B : Type 0} (f : A → ClockExpr) (g : B → Expr) (all : (b : B) → IsPlaced (g b)) where
  parts_uncut : (x : ℕ) (ps : List B) → sum (map (bare_count x) (map g ps)) ≤ sum (map (uncut_count x) (map g ps))
  parts_uncut x [] = omega arith
  parts_uncut x (p ∷ ps) = omega (arith, (all p).uncut x, parts_uncut x ps, sum_by-cons (λ m. m) (bare_count x (g p)) (map (bare_count x) (map g ps)), sum_by-cons (λ m. m) (uncut_count x (g p)) (map (uncut_count x) (map g ps)))

  level_uncut : (x : ℕ) (y : Expr-F A B) → bare_in_level x (counted (bare_count x) (map-Expr A B ClockExpr Expr f g y)) ≤ uncut_in_level x (counted (uncut_count x) (map-Expr A B ClockExpr Expr f g y))
  level_uncut x (Expr-F.Const v) = omega arith
  level_uncut x (Expr-F.Read n) = omega arith
  level_uncut x (Expr-F.Chain ps ops) = parts_uncut x ps
  level_uncut x (Expr-F.Relation rel a b) = omega (arith, (all a).uncut x, (all b).uncut x)
  level_uncut x (Expr-F.Neg a) = (all a).uncut x
  level_uncut x (Expr-F.Not a) = (all a).uncut x
  level_uncut x (Expr-F.If cs bs other) = omega (arith, parts_uncut x cs, parts_uncut x bs, (all other).uncut x)
  level_uncut x (Expr-F.Apply function ps) = parts_uncut x ps
  level_uncut x (Expr-F.Previous n) = omega arith
  level_uncut x (Expr-F.FirstTick n) = omega arith
  level_uncut x (Expr-F.IntervalTimes n k) = omega arith
  level_uncut x (Expr-F.Hold n) = omega arith
  level_uncut x (Expr-F.«Expr::Convert» conversion n) = omega arith
  level_uncut x (Expr-F.Sample a clock) = omega arith

  parts_left : (ps : List B) → all_stand Left (map may_stand (map g ps)) ≡ true → sum (map sample_count (map g ps)) ≡ 0
  parts_left [] stand = refl
  parts_left (p ∷ ps) stand = omega (arith, (all p).left (and_parts _ _ stand).0, parts_left ps (and_parts _ _ stand).1, sum_by-cons (λ m. m) (sample_count (g p)) (map sample_count (map g ps)))

  level_left : (y : Expr-F A B) → standing_of_level (map-Expr ClockExpr Expr (Unit {0}) Standing (λ _. tt) may_stand (map-Expr A B ClockExpr Expr f g y)) Left ≡ true → samples_in_level (counted sample_count (map-Expr A B ClockExpr Expr f g y)) ≡ 0
  level_left (Expr-F.Const v) stand = refl
  level_left (Expr-F.Read n) stand = refl
  level_left (Expr-F.Chain ps ops) stand = parts_left ps stand
  level_left (Expr-F.Relation rel a b) stand = let h = and_parts _ _ stand in ap₂ (λ m n. m + n) ((all a).left h.0) ((all b).left h.1)
  level_left (Expr-F.Neg a) stand = (all a).left stand
  level_left (Expr-F.Not a) stand = (all a).left stand
  level_left (Expr-F.If cs bs other) stand =
      omega (arith, parts_left cs (and_parts _ _ (and_parts _ _ stand).0).0, parts_left bs (and_parts _ _ (and_parts _ _ stand).0).1, (all other).left (and_parts _ _ stand).1)
  level_left (Expr-F.Apply function ps) stand = parts_left ps stand
  level_left (Expr-F.Previous n) stand = refl
  level_left (Expr-F.FirstTick n) stand = refl
  level_left (Expr-F.IntervalTimes n k) stand = refl
  level_left (Expr-F.Hold n) stand = refl
  level_left (Expr-F.«Expr::Convert» conversion n) stand = refl
  level_left (Expr-F.Sample a clock) stand = absurd (false≢true stand)

  parts_direct : (ps : List B) → list_all (λ part. part) (map is_direct (map g ps)) ≡ true → sum (map sample_count (map g ps)) ≡ 0
  parts_direct [] stand = refl
  parts_direct (p ∷ ps) stand = omega (arith, (all p).direct (and_parts _ _ stand).0, parts_direct ps (and_parts _ _ stand).1, sum_by-cons (λ m. m) (sample_count (g p)) (map sample_count (map g ps)))

  level_direct : (y : Expr-F A B) → direct_level (map-Expr ClockExpr Expr (Unit {0}) Bool (λ _. tt) is_direct (map-Expr A B ClockExpr Expr f g y)) ≡ true → samples_in_level (counted sample_count (map-Expr A B ClockExpr Expr f g y)) ≡ 0
  level_direct (Expr-F.Const v) stand = refl
  level_direct (Expr-F.Read n) stand = refl
  level_direct (Expr-F.Chain ps ops) stand = parts_direct ps stand
  level_direct (Expr-F.Relation rel a b) stand = let h = and_parts _ _ stand in ap₂ (λ m n. m + n) ((all a).direct h.0) ((all b).direct h.1)
  level_direct (Expr-F.Neg a) stand = (all a).direct stand
  level_direct (Expr-F.Not a) stand = (all a).direct stand
  level_direct (Expr-F.If cs bs other) stand =
      omega (arith, parts_direct cs (and_parts _ _ (and_parts _ _ stand).0).0, parts_direct bs (and_parts _ _ (and_parts _ _ stand).0).1, (all other).direct (and_parts _ _ stand).1)
  level_direct (Expr-F.Apply function ps) stand = parts_direct ps stand
  level_direct (Expr-F.Previous n) stand = absurd (false≢true stand)
  level_direct (Expr-F.FirstTick n) stand = absurd (false≢true stand)
  level_direct (Expr-F.IntervalTimes n k) stand = absurd (false≢true stand)
  level_direct (Expr-F.Hold n) stand = absurd (false≢true stand)
  level_direct (Expr-F.«Expr::Convert» conversion n) stand = absurd (false≢true stand)
  level_direct (Expr-F.Sample a clock) stand = absurd (false≢true stand)

  rolled : (y : Expr-F A B) → IsPlaced (roll-Expr (map-Expr A B ClockExpr Expr f g y))
  rolled y = let z = map-Expr A B ClockExpr Expr f g y in record {
    uncut = λ x. let h = level_uncut x y in omega (arith, h, bare_roll x z, uncut_roll x z);
    left = λ stand. samples_roll z ∙ level_left y (sym (may_roll z Left) ∙ stand);
    direct = λ stand. samples_roll z ∙ level_direct y (sym (direct_roll z) ∙ stand);
  }

placed : (e : Expr) → IsPlaced e
placed = ind-Expr (λ c. Unit {0}) IsPlaced (λ a b is. tt) (λ a y is. subst (λ z. IsPlaced (roll-Expr z)) is (rolled (λ c. c.0) (λ e. e.0) (λ e. e.1) y))

pub bare_uncut : (x : ℕ) (e : Expr) → bare_count x e ≤ uncut_count x e
bare_uncut x e = (placed e).uncut x

pub left_unsampled : (e : Expr) → may_stand e Left ≡ true → sample_count e ≡ 0
left_unsampled e = (placed e).left

pub direct_unsampled : (e : Expr) → is_direct e ≡ true → sample_count e ≡ 0
direct_unsampled e = (placed e).direct
