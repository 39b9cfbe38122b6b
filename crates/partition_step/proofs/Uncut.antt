-- What is asked for at the tick before stands uncut.
use Rattle.std.proofs.Common.{◌≡◌, subst, ℕ, ◌≤◌, List, [], ◌∷◌, map, sum, arith}
use Rattle.std.proofs.lemmas.List.Sums.{sum_by-cons}
use Rattle.flat_model.specs.declared.expression.Expr.{Expr}
use Rattle.flat_model.specs.declared.clock.ClockExpr.{ClockExpr}
use Rattle.flat_model.specs.declared.clock.ClockExpr.TheOpen.{Expr-F}
use Rattle.flat_model.specs.declared.clock.ClockExpr.TheViews.{roll-Expr}
use Rattle.flat_model.specs.declared.clock.ClockExpr.TheFolds.{ind-Expr, fold-roll-Expr, map-Expr}
use Rattle.flat_model.specs.Occurrences.{uncut_in_level, uncut_count}
use Rattle.flat_model.specs.Asks.{OfPrevious, Asked, asked, asked_in_level, all_asked}
use Rattle.flat_model.proofs.Asks.{asked_roll}

abbrev counted : (Expr → ℕ) → Expr-F ClockExpr Expr → Expr-F (Unit {0}) ℕ
counted count y = map-Expr ClockExpr Expr (Unit {0}) ℕ (λ _. tt) count y

uncut_roll : (x : ℕ) (y : Expr-F ClockExpr Expr) → uncut_count x (roll-Expr y) ≡ uncut_in_level x (counted (uncut_count x) y)
unfolding uncut_count
uncut_roll x y = fold-roll-Expr (Unit {0}) ℕ (λ _. tt) (uncut_in_level x) y

module _ (x : ℕ) where
  abbrev IsUncut : Expr → Type 0
  IsUncut e = asked e 0 (OfPrevious x) ≤ uncut_count x e

  abbrev level_asked : Expr-F ClockExpr Expr → Asked
  level_asked y = asked_in_level (map-Expr ClockExpr Expr (Unit {0}) Asked (λ _. tt) asked y)

  module _ {A B : Type 0} (f : A → ClockExpr) (g : B → Expr) (all : (b : B) → IsUncut (g b)) where
    parts_uncut : (ps : List B) → all_asked (map asked (map g ps)) 0 (OfPrevious x) ≤ sum (map (uncut_count x) (map g ps))
    parts_uncut [] = omega arith
    parts_uncut (p ∷ ps) = let own = all p in let rest = parts_uncut ps in omega (arith, own, rest, sum_by-cons (λ m. m) (uncut_count x (g p)) (map (uncut_count x) (map g ps)))

    level_uncut : (y : Expr-F A B) → level_asked (map-Expr A B ClockExpr Expr f g y) 0 (OfPrevious x) ≤ uncut_in_level x (counted (uncut_count x) (map-Expr A B ClockExpr Expr f g y))
    level_uncut (Expr-F.Const v) = omega arith
    level_uncut (Expr-F.Read n) = omega arith
    level_uncut (Expr-F.Chain ps ops) = parts_uncut ps
    level_uncut (Expr-F.Relation rel a b) = let one = all a in let other = all b in omega (arith, one, other)
    level_uncut (Expr-F.Neg a) = all a
    level_uncut (Expr-F.Not a) = all a
    level_uncut (Expr-F.If cs bs other) = let h = all other in omega (arith, parts_uncut cs, parts_uncut bs, h)
    level_uncut (Expr-F.Apply function ps) = parts_uncut ps
    level_uncut (Expr-F.Previous n) = omega arith
    level_uncut (Expr-F.FirstTick n) = omega arith
    level_uncut (Expr-F.IntervalTimes n k) = omega arith
    level_uncut (Expr-F.Hold n) = omega arith
    level_uncut (Expr-F.«Expr::Convert» conversion n) = omega arith
    level_uncut (Expr-F.Sample a clock) = omega arith

    rolled : (y : Expr-F A B) → IsUncut (roll-Expr (map-Expr A B ClockExpr Expr f g y))
    rolled y = let z = map-Expr A B ClockExpr Expr f g y in let h = level_uncut y in let e = asked_roll z 0 (OfPrevious x) in let u = uncut_roll x z in omega (arith, h, e, u)

  pub previous_uncut : (e : Expr) → IsUncut e
  previous_uncut = ind-Expr (λ c. Unit {0}) IsUncut (λ a b is. tt) (λ a y is. subst (λ z. IsUncut (roll-Expr z)) is (rolled (λ c. c.0) (λ e. e.0) (λ e. e.1) y))
