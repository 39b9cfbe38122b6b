-- On the way to a name every answer fits 64 bits.
use Rattle.std.proofs.Common.{◌≡◌, refl, ap, ◌∙◌, sym, subst, ℕ, ◌+◌, ◌==◌, Bool, true, false, cond, List, [], ◌∷◌, Some, map, length, arith}
use Rattle.std.specs.Prelude.{neg_ℤ}
use Rattle.std.proofs.lemmas.Bool.{and_parts, eqb-true}
use Rattle.std.specs.List.{list_any, list_all}
use Rattle.sync_values.specs.declared.value.Value.{Value}
use Rattle.sync_values.specs.declared.value.Value.TheVariants as value
use Rattle.sync_values.specs.declared.value.ChainOp.{ChainOp}
use Rattle.flat_model.specs.declared.expression.Expr.{Expr}
use Rattle.flat_model.specs.declared.clock.ClockExpr.{ClockExpr}
use Rattle.flat_model.specs.declared.clock.ClockExpr.TheOpen.{Expr-F}
use Rattle.flat_model.specs.declared.clock.ClockExpr.TheViews.{roll-Expr}
use Rattle.flat_model.specs.declared.clock.ClockExpr.TheFolds.{ind-Expr, fold-roll-Expr, map-Expr}
use Rattle.flat_model.specs.Occurrences.{is_sum, reached_in_level, is_reached}
use Rattle.flat_model.specs.Operators.{Answer, Is, Fails, Absent, read, negated, inverted, chain, joined}
use Rattle.flat_model.specs.Views.{Views}
use Rattle.flat_model.specs.Meaning.{Meaning, meaning_of_level, seen_by, value_of}
use Rattle.eq_orient.specs.Solving.{Fits, with_now, formed_level, is_formed}
use Rattle.eq_orient.specs.private.Undoing.{AnswerFits}
use Rattle.eq_orient.proofs.Undoing.{settled_fits, joined_fits, chained_fits}

abbrev GivesFitting : ℕ → Expr → Type 0
GivesFitting x e = is_formed e ≡ true → is_reached x e ≡ true → (v : Value) (views : Views) → Fits v → AnswerFits (value_of e (with_now x v views))

value_roll : (y : Expr-F ClockExpr Expr) (views : Views) → value_of (roll-Expr y) views ≡ meaning_of_level (map-Expr ClockExpr Expr (Unit {0}) Meaning (λ _. tt) value_of y) views
unfolding value_of
value_roll y views = ap (λ f. f views) (fold-roll-Expr (Unit {0}) Meaning (λ _. tt) meaning_of_level y)

formed_roll : (y : Expr-F ClockExpr Expr) → is_formed (roll-Expr y) ≡ formed_level (map-Expr ClockExpr Expr (Unit {0}) Bool (λ _. tt) is_formed y)
unfolding is_formed
formed_roll y = fold-roll-Expr (Unit {0}) Bool (λ _. tt) formed_level y

reached_roll : (x : ℕ) (y : Expr-F ClockExpr Expr) → is_reached x (roll-Expr y) ≡ reached_in_level x (map-Expr ClockExpr Expr (Unit {0}) Bool (λ _. tt) (is_reached x) y)
unfolding is_reached
reached_roll x y = fold-roll-Expr (Unit {0}) Bool (λ _. tt) (reached_in_level x) y

negated_fits : (a : Answer) → AnswerFits (negated a)
negated_fits (Is (value.Int z)) = settled_fits (neg_ℤ z)
negated_fits (Is (value.Bool b)) = tt
negated_fits (Fails kind) = tt
negated_fits Absent = tt

inverted_fits : (a : Answer) → AnswerFits (inverted a)
inverted_fits (Is (value.Int z)) = tt
inverted_fits (Is (value.Bool b)) = tt
inverted_fits (Fails kind) = tt
inverted_fits Absent = tt

module _ {A B : Type 0} (x : ℕ) (f : A → ClockExpr) (g : B → Expr) (all : (b : B) → GivesFitting x (g b)) where
  in_chain : (ps : List B) (ops : List ChainOp) → length (map is_formed (map g ps)) ≡ length ops + 1 → list_all (λ b. b) (map is_formed (map g ps)) ≡ true
      → list_all is_sum ops ≡ true → list_any (λ b. b) (map (is_reached x) (map g ps)) ≡ true → (v : Value) (views : Views) → Fits v
      → AnswerFits (chain ops (seen_by (with_now x v views) (map value_of (map g ps))))
  in_chain [] ops long formed sums reached v views fits = cc
  in_chain (p ∷ []) [] long formed sums reached v views fits =
      all p (and_parts (is_formed (g p)) true formed).0 (alone (is_reached x (g p)) reached) v views fits
    where
      alone : (b : Bool) → list_any (λ b. b) (b ∷ []) ≡ true → b ≡ true
      alone true e = refl
      alone false e = e
  in_chain (p ∷ []) (op ∷ ops) long formed sums reached v views fits = absurd (omega (arith, long))
  in_chain (p ∷ (q ∷ ps)) [] long formed sums reached v views fits = absurd (omega (arith, long))
  in_chain (p ∷ (q ∷ ps)) (op ∷ ops) long formed sums reached v views fits =
      let both = and_parts (is_sum op) (list_all is_sum ops) sums in
      chained_fits ops (seen_by (with_now x v views) (map value_of (map g ps))) both.1
      (joined op (value_of (g p) (with_now x v views)) (value_of (g q) (with_now x v views)))
      (joined_fits op both.0 (value_of (g p) (with_now x v views)) (value_of (g q) (with_now x v views)))

  level : (y : Expr-F A B) → formed_level (map-Expr ClockExpr Expr (Unit {0}) Bool (λ _. tt) is_formed (map-Expr A B ClockExpr Expr f g y)) ≡ true
      → reached_in_level x (map-Expr ClockExpr Expr (Unit {0}) Bool (λ _. tt) (is_reached x) (map-Expr A B ClockExpr Expr f g y)) ≡ true
      → (v : Value) (views : Views) → Fits v
      → AnswerFits (meaning_of_level (map-Expr ClockExpr Expr (Unit {0}) Meaning (λ _. tt) value_of (map-Expr A B ClockExpr Expr f g y)) (with_now x v views))
  level (Expr-F.Const w) formed reached v views fits = cc
  level (Expr-F.Read n) formed reached v views fits =
      subst (λ b. AnswerFits (read (cond b (Some v) ((views 0).now n)))) (sym reached) fits
  level (Expr-F.Chain ps ops) formed reached v views fits =
      let shape = and_parts (length (map is_formed (map g ps)) == length ops + 1) (list_all (λ b. b) (map is_formed (map g ps))) formed in
      let way = and_parts (list_all is_sum ops) (list_any (λ b. b) (map (is_reached x) (map g ps))) reached in
      in_chain ps ops (eqb-true (length (map is_formed (map g ps))) (length ops + 1) shape.0) shape.1 way.0 way.1 v views fits
  level (Expr-F.Relation rel a b) formed reached v views fits = cc
  level (Expr-F.Neg a) formed reached v views fits = negated_fits (value_of (g a) (with_now x v views))
  level (Expr-F.Not a) formed reached v views fits = inverted_fits (value_of (g a) (with_now x v views))
  level (Expr-F.If cs qs other) formed reached v views fits = cc
  level (Expr-F.Apply function ps) formed reached v views fits = cc
  level (Expr-F.Previous n) formed reached v views fits = cc
  level (Expr-F.FirstTick n) formed reached v views fits = cc
  level (Expr-F.IntervalTimes u k) formed reached v views fits = cc
  level (Expr-F.Hold n) formed reached v views fits = cc
  level (Expr-F.«Expr::Convert» conversion n) formed reached v views fits = cc
  level (Expr-F.Sample a clock) formed reached v views fits = cc

  rolled : (y : Expr-F A B) → GivesFitting x (roll-Expr (map-Expr A B ClockExpr Expr f g y))
  rolled y formed reached v views fits =
      let z = map-Expr A B ClockExpr Expr f g y in
      subst AnswerFits (sym (value_roll z (with_now x v views))) (level y (sym (formed_roll z) ∙ formed) (sym (reached_roll x z) ∙ reached) v views fits)

pub gives_fitting : (x : ℕ) (e : Expr) → GivesFitting x e
gives_fitting x = ind-Expr (λ c. Unit {0}) (GivesFitting x) (λ a y is. tt) (λ a y is. subst (λ z. GivesFitting x (roll-Expr z)) is (rolled x (λ c. c.0) (λ e. e.0) (λ e. e.1) y))
