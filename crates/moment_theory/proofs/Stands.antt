-- A name that is reached in an expression stands bare in it.
use Rattle.std.proofs.Common.{◌≡◌, inl, inr, ◌∙◌, sym, subst, ℕ, ◌≤◌, Bool, true, List, [], ◌∷◌, map, sum, arith}
use Rattle.std.proofs.lemmas.Bool.{and_parts, or_cases}
use Rattle.std.proofs.lemmas.List.Sums.{sum_by-cons}
use Rattle.std.specs.List.{list_any, list_all}
use Rattle.flat_model.specs.declared.expression.Expr.{Expr}
use Rattle.flat_model.specs.declared.clock.ClockExpr.{ClockExpr}
use Rattle.flat_model.specs.declared.clock.ClockExpr.TheOpen.{Expr-F}
use Rattle.flat_model.specs.declared.clock.ClockExpr.TheViews.{roll-Expr}
use Rattle.flat_model.specs.declared.clock.ClockExpr.TheFolds.{ind-Expr, fold-roll-Expr, map-Expr}
use Rattle.flat_model.specs.Occurrences.{one_if, is_sum, bare_in_level, bare_count, reached_in_level, is_reached}

abbrev Stands : ℕ → Expr → Type 0
Stands x e = is_reached x e ≡ true → 1 ≤ bare_count x e

bare_roll : (x : ℕ) (y : Expr-F ClockExpr Expr) → bare_count x (roll-Expr y) ≡ bare_in_level x (map-Expr ClockExpr Expr (Unit {0}) ℕ (λ _. tt) (bare_count x) y)
unfolding bare_count
bare_roll x y = fold-roll-Expr (Unit {0}) ℕ (λ _. tt) (bare_in_level x) y

reached_roll : (x : ℕ) (y : Expr-F ClockExpr Expr) → is_reached x (roll-Expr y) ≡ reached_in_level x (map-Expr ClockExpr Expr (Unit {0}) Bool (λ _. tt) (is_reached x) y)
unfolding is_reached
reached_roll x y = fold-roll-Expr (Unit {0}) Bool (λ _. tt) (reached_in_level x) y

module _ {A B : Type 0} (x : ℕ) (f : A → ClockExpr) (g : B → Expr) (all : (b : B) → Stands x (g b)) where
  in_any : (ps : List B) → list_any (λ b. b) (map (is_reached x) (map g ps)) ≡ true → 1 ≤ sum (map (bare_count x) (map g ps))
  in_any [] e = cc
  in_any (p ∷ ps) e =
      let total = sum_by-cons (λ (n : ℕ). n) (bare_count x (g p)) (map (bare_count x) (map g ps)) in
      elim (or_cases (is_reached x (g p)) (list_any (λ b. b) (map (is_reached x) (map g ps))) e) [
        | inl here ↦ let some = all p here in omega (arith, total, some)
        | inr later ↦ let some = in_any ps later in omega (arith, total, some)
      ]

  level : (y : Expr-F A B) → reached_in_level x (map-Expr ClockExpr Expr (Unit {0}) Bool (λ _. tt) (is_reached x) (map-Expr A B ClockExpr Expr f g y)) ≡ true
      → 1 ≤ bare_in_level x (map-Expr ClockExpr Expr (Unit {0}) ℕ (λ _. tt) (bare_count x) (map-Expr A B ClockExpr Expr f g y))
  level (Expr-F.Const v) e = cc
  level (Expr-F.Read n) e = subst (λ b. 1 ≤ one_if b) (sym e) (omega arith)
  level (Expr-F.Chain ps ops) e = in_any ps (and_parts (list_all is_sum ops) (list_any (λ b. b) (map (is_reached x) (map g ps))) e).1
  level (Expr-F.Relation rel a b) e = cc
  level (Expr-F.Neg a) e = all a e
  level (Expr-F.Not a) e = all a e
  level (Expr-F.If cs qs other) e = cc
  level (Expr-F.Apply function ps) e = cc
  level (Expr-F.Previous n) e = cc
  level (Expr-F.FirstTick n) e = cc
  level (Expr-F.IntervalTimes u k) e = cc
  level (Expr-F.Hold n) e = cc
  level (Expr-F.«Expr::Convert» conversion n) e = cc
  level (Expr-F.Sample a clock) e = cc

  rolled : (y : Expr-F A B) → Stands x (roll-Expr (map-Expr A B ClockExpr Expr f g y))
  rolled y e =
      let z = map-Expr A B ClockExpr Expr f g y in
      let some = level y (sym (reached_roll x z) ∙ e) in
      omega (arith, some, bare_roll x z)

pub stands_bare : (x : ℕ) (e : Expr) → Stands x e
stands_bare x = ind-Expr (λ c. Unit {0}) (Stands x) (λ a y is. tt) (λ a y is. subst (λ z. Stands x (roll-Expr z)) is (rolled x (λ c. c.0) (λ e. e.0) (λ e. e.1) y))
