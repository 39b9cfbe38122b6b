-- An expression lacks a value just where a name that stands bare in it has none.
use Rattle.std.proofs.Common.{◌≡◌, refl, ap, ◌∙◌, sym, subst, ℕ, ◌+◌, ◌<◌, ◌==◌, ◌||◌, Bool, true, false, List, [], ◌∷◌, map, sum, Option, Some, None, IsSome, is_none, arith}
use Rattle.std.specs.List.{list_any}
use Rattle.std.proofs.lemmas.Bool.{false≢true, true≢false, eqb-true, eq-eqb}
use Rattle.std.proofs.lemmas.List.Sums.{sum_by-cons}
use Rattle.sync_values.specs.declared.value.Value.{Value}
use Rattle.flat_model.specs.declared.expression.Expr.{Expr}
use Rattle.flat_model.specs.declared.clock.ClockExpr.{ClockExpr}
use Rattle.flat_model.specs.declared.clock.ClockExpr.TheOpen.{Expr-F}
use Rattle.flat_model.specs.declared.clock.ClockExpr.TheViews.{roll-Expr}
use Rattle.flat_model.specs.declared.clock.ClockExpr.TheFolds.{ind-Expr, fold-roll-Expr, map-Expr}
use Rattle.flat_model.specs.Values.{value_in}
use Rattle.flat_model.specs.Occurrences.{one_if, bare_in_level, bare_count}
use Rattle.site_risings.specs.private.Lacking.{is_missing, lacks, lacks_in_level}

bare_roll : (x : ℕ) (y : Expr-F ClockExpr Expr) → bare_count x (roll-Expr y) ≡ bare_in_level x (map-Expr ClockExpr Expr (Unit {0}) ℕ (λ _. tt) (bare_count x) y)
unfolding bare_count
bare_roll x y = fold-roll-Expr (Unit {0}) ℕ (λ _. tt) (bare_in_level x) y

module _ (now : List (Option Value)) where
  lacks_roll : (y : Expr-F ClockExpr Expr) → lacks now (roll-Expr y) ≡ lacks_in_level now (map-Expr ClockExpr Expr (Unit {0}) Bool (λ _. tt) (lacks now) y)
  unfolding lacks
  lacks_roll y = fold-roll-Expr (Unit {0}) Bool (λ _. tt) (lacks_in_level now) y

  -- an answer is true just where some name that is missing stands
  record IsTold (answer : Bool) (count : ℕ → ℕ) : Type 0 where
    pub some : answer ≡ true → (x : ℕ) × (0 < count x) × (is_missing now x ≡ true)
    pub all : (x : ℕ) → 0 < count x → is_missing now x ≡ true → answer ≡ true

  abbrev Told : Expr → Type 0
  Told e = IsTold (lacks now e) (λ x. bare_count x e)

  none : IsTold false (λ x. 0)
  none = record { some = λ is_true. absurd (false≢true is_true); all = λ x there miss. absurd (omega (arith, there)) }

  both : (a b : Bool) (n k : ℕ → ℕ) → IsTold a n → IsTold b k → IsTold (a || b) (λ x. n x + k x)
  both true b n k one two = record {
    some = λ is_true. let (x, there, miss) = one.some refl in (x, omega (arith, there), miss);
    all = λ x there miss. refl;
  }
  both false b n k one two = record {
    some = λ is_true. let (x, there, miss) = two.some is_true in (x, omega (arith, there), miss);
    all = λ x there miss. two.all x (let less : 0 < n x → ⊥ = λ h. false≢true (one.all x h miss) in omega (arith, there, less)) miss;
  }

  counted : (a : Bool) (n k : ℕ → ℕ) → ((x : ℕ) → n x ≡ k x) → IsTold a k → IsTold a n
  counted a n k same told = record {
    some = λ is_true. let (x, there, miss) = told.some is_true in (x, subst (λ c. 0 < c) (sym (same x)) there, miss);
    all = λ x there miss. told.all x (subst (λ c. 0 < c) (same x) there) miss;
  }

  one_true : (b : Bool) → 0 < one_if b → b ≡ true
  one_true true there = refl
  one_true false there = absurd (omega (arith, there))

  one_of : (b : Bool) → b ≡ true → 0 < one_if b
  one_of true e = omega arith
  one_of false e = absurd (false≢true e)

  module _ {A B : Type 0} (f : A → ClockExpr) (g : B → Expr) (all : (b : B) → Told (g b)) where
    parts : (ps : List B) → IsTold (list_any (λ part. part) (map (lacks now) (map g ps))) (λ x. sum (map (bare_count x) (map g ps)))
    parts [] = none
    parts (p ∷ ps) = counted (lacks now (g p) || list_any (λ part. part) (map (lacks now) (map g ps)))
        (λ x. sum (map (bare_count x) (map g (p ∷ ps)))) (λ x. bare_count x (g p) + sum (map (bare_count x) (map g ps)))
        (λ x. sum_by-cons (λ (n : ℕ). n) (bare_count x (g p)) (map (bare_count x) (map g ps)))
        (both (lacks now (g p)) (list_any (λ part. part) (map (lacks now) (map g ps))) (λ x. bare_count x (g p)) (λ x. sum (map (bare_count x) (map g ps))) (all p) (parts ps))

    level : (y : Expr-F A B) → IsTold (lacks_in_level now (map-Expr ClockExpr Expr (Unit {0}) Bool (λ _. tt) (lacks now) (map-Expr A B ClockExpr Expr f g y)))
        (λ x. bare_in_level x (map-Expr ClockExpr Expr (Unit {0}) ℕ (λ _. tt) (bare_count x) (map-Expr A B ClockExpr Expr f g y)))
    level (Expr-F.Const v) = none
    level (Expr-F.Read n) = record {
      some = λ is_true. (n, one_of (n == n) (eq-eqb n n refl), is_true);
      all = λ x there miss. subst (λ z. is_missing now z ≡ true) (sym (eqb-true n x (one_true (n == x) there))) miss;
    }
    level (Expr-F.Chain ps ops) = parts ps
    level (Expr-F.Relation rel a b) = both (lacks now (g a)) (lacks now (g b)) (λ x. bare_count x (g a)) (λ x. bare_count x (g b)) (all a) (all b)
    level (Expr-F.Neg a) = all a
    level (Expr-F.Not a) = all a
    level (Expr-F.If cs bs other) = both _ _ _ _ (both _ _ _ _ (parts cs) (parts bs)) (all other)
    level (Expr-F.Apply function ps) = parts ps
    level (Expr-F.Previous n) = none
    level (Expr-F.FirstTick n) = none
    level (Expr-F.IntervalTimes u k) = none
    level (Expr-F.Hold n) = none
    level (Expr-F.«Expr::Convert» conversion n) = none
    level (Expr-F.Sample a clock) = none

    rolled : (y : Expr-F A B) → Told (roll-Expr (map-Expr A B ClockExpr Expr f g y))
    rolled y =
        let z = map-Expr A B ClockExpr Expr f g y in
        counted (lacks now (roll-Expr z)) (λ x. bare_count x (roll-Expr z)) (λ x. bare_in_level x (map-Expr ClockExpr Expr (Unit {0}) ℕ (λ _. tt) (bare_count x) z)) (λ x. bare_roll x z)
        (subst (λ b. IsTold b (λ x. bare_in_level x (map-Expr ClockExpr Expr (Unit {0}) ℕ (λ _. tt) (bare_count x) z))) (sym (lacks_roll z)) (level y))

  told : (e : Expr) → Told e
  told = ind-Expr (λ c. Unit {0}) Told (λ a b is. tt) (λ a y is. subst (λ z. Told (roll-Expr z)) is (rolled (λ c. c.0) (λ e. e.0) (λ e. e.1) y))

  some_of : (o : Option Value) → (is_none o ≡ true → ⊥) → IsSome o
  some_of None not = absurd (not refl)
  some_of (Some v) not = refl

  none_missing : (o : Option Value) → is_none o ≡ true → IsSome o → ⊥
  none_missing None miss some = false≢true some
  none_missing (Some v) miss some = false≢true miss

  pub all_there : (e : Expr) → lacks now e ≡ false → (y : ℕ) → 0 < bare_count y e → IsSome (value_in now y)
  all_there e h y some = some_of (value_in now y) (λ miss. true≢false (sym ((told e).all y some miss) ∙ h))

  pub some_lacks : (e : Expr) → lacks now e ≡ true → ((y : ℕ) → 0 < bare_count y e → IsSome (value_in now y)) → ⊥
  some_lacks e h there = let (x, stands, miss) = (told e).some h in none_missing (value_in now x) miss (there x stands)
