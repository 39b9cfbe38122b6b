-- An expression lacks something just where a name stands in it that is missing.
use Rattle.std.proofs.Common.{◌≡◌, refl, ap, ◌∙◌, sym, subst, ℕ, ◌+◌, ◌<◌, ◌==◌, ◌||◌, Bool, true, false, List, [], ◌∷◌, map, sum, arith}
use Rattle.std.specs.List.{list_any}
use Rattle.std.proofs.lemmas.Bool.{false≢true, eqb-true, eq-eqb}
use Rattle.std.proofs.lemmas.List.Sums.{sum_by-cons}
use Rattle.flat_model.specs.declared.expression.Expr.{Expr}
use Rattle.flat_model.specs.declared.expression.Expr.TheVariants.{Read, If, Hold, Convert, rolls-Const, rolls-Read, rolls-Chain, rolls-Relation, rolls-Neg, rolls-Not, rolls-If, rolls-Apply, rolls-Previous, rolls-FirstTick, rolls-IntervalTimes, rolls-Hold, rolls-Convert, rolls-Sample}
use Rattle.flat_model.specs.declared.clock.ClockExpr.{ClockExpr}
use Rattle.flat_model.specs.declared.clock.Conversion.{Conversion}
use Rattle.flat_model.specs.declared.clock.ClockExpr.TheOpen.{Expr-F}
use Rattle.flat_model.specs.declared.clock.ClockExpr.TheViews.{roll-Expr}
use Rattle.flat_model.specs.declared.clock.ClockExpr.TheFolds.{ind-Expr, map-Expr}
use Rattle.flat_model.specs.Occurrences.{one_if}
use Rattle.eq_orient.specs.declared.standing.Manner.{Manner}
use Rattle.eq_orient.specs.declared.standing.Manner.TheVariants as manner
use Rattle.eq_orient.specs.Spine.{count_in}
use Rattle.eq_orient.proofs.Counts.{count_in-Const, count_in-Read, count_in-Chain, count_in-Relation, count_in-Neg, count_in-Not, count_in-If, count_in-Apply, count_in-Previous, count_in-FirstTick, count_in-IntervalTimes, count_in-Hold, count_in-Convert, count_in-Sample}
use Rattle.tree_step.specs.private.Lacking.{lacks}
use Rattle.tree_step.proofs.Levels.{lacks-Const, lacks-Read, lacks-Chain, lacks-Relation, lacks-Neg, lacks-Not, lacks-If, lacks-Apply, lacks-Previous, lacks-FirstTick, lacks-IntervalTimes, lacks-Hold, lacks-Convert, lacks-Sample}

module _ (bare last : ℕ → Bool) where
  -- a name that stands so makes what it stands in rest on a clock
  abbrev pub ties : Manner → ℕ → Bool
  ties manner.Bare x = bare x
  ties manner.Held x = last x
  ties manner.Converted x = last x

  -- an answer is true just where some name that ties stands
  pub record IsTold (answer : Bool) (count : Manner → ℕ → ℕ) : Type 0 where
    pub some : answer ≡ true → (m : Manner) × (x : ℕ) × (0 < count m x) × (ties m x ≡ true)
    pub all : (m : Manner) (x : ℕ) → 0 < count m x → ties m x ≡ true → answer ≡ true

  abbrev pub Told : Expr → Type 0
  Told e = IsTold (lacks bare last e) (λ m x. count_in m x e)

  moved : (a b : Bool) (n k : Manner → ℕ → ℕ) → a ≡ b → ((m : Manner) (x : ℕ) → n m x ≡ k m x) → IsTold b k → IsTold a n
  moved a b n k same counts told = record {
    some = λ is_true. let (m, x, there, tie) = told.some (sym same ∙ is_true) in (m, x, subst (λ c. 0 < c) (sym (counts m x)) there, tie);
    all = λ m x there tie. same ∙ told.all m x (subst (λ c. 0 < c) (counts m x) there) tie;
  }

  none : IsTold false (λ m x. 0)
  none = record { some = λ is_true. absurd (false≢true is_true); all = λ m x there tie. absurd (omega (arith, there)) }

  both : (a b : Bool) (n k : Manner → ℕ → ℕ) → IsTold a n → IsTold b k → IsTold (a || b) (λ m x. n m x + k m x)
  both true b n k one two = record {
    some = λ is_true. let (m, x, there, tie) = one.some refl in (m, x, omega (arith, there), tie);
    all = λ m x there tie. refl;
  }
  both false b n k one two = record {
    some = λ is_true. let (m, x, there, tie) = two.some is_true in (m, x, omega (arith, there), tie);
    all = λ m x there tie. two.all m x (let less : 0 < n m x → ⊥ = λ h. false≢true (one.all m x h tie) in omega (arith, there, less)) tie;
  }

  parts : {B : Type 0} (g : B → Expr) → ((b : B) → Told (g b)) → (ps : List B) → IsTold (list_any (λ part. part) (map (lacks bare last) (map g ps))) (λ m x. sum (map (count_in m x) (map g ps)))
  parts g all [] = none
  parts g all (p ∷ ps) = moved (lacks bare last (g p) || list_any (λ part. part) (map (lacks bare last) (map g ps))) (lacks bare last (g p) || list_any (λ part. part) (map (lacks bare last) (map g ps)))
      (λ m x. sum (map (count_in m x) (map g (p ∷ ps)))) (λ m x. count_in m x (g p) + sum (map (count_in m x) (map g ps))) refl
      (λ m x. sum_by-cons (λ (n : ℕ). n) (count_in m x (g p)) (map (count_in m x) (map g ps)))
      (both (lacks bare last (g p)) (list_any (λ part. part) (map (lacks bare last) (map g ps))) (λ m x. count_in m x (g p)) (λ m x. sum (map (count_in m x) (map g ps))) (all p) (parts g all ps))

  one_true : (b : Bool) → 0 < one_if b → b ≡ true
  one_true true there = refl
  one_true false there = absurd (omega (arith, there))

  one_of : (b : Bool) → b ≡ true → 0 < one_if b
  one_of true e = omega arith
  one_of false e = absurd (false≢true e)

  module _ {A B : Type 0} (f : A → ClockExpr) (g : B → Expr) (all : (b : B) → Told (g b)) where
    leaf : (e : Expr) → lacks bare last e ≡ false → ((m : Manner) (x : ℕ) → count_in m x e ≡ 0) → Told e
    leaf e is_false counts = moved (lacks bare last e) false (λ m x. count_in m x e) (λ m x. 0) is_false counts none

    read_all : (n : ℕ) (m : Manner) (x : ℕ) → 0 < count_in m x (Read n) → ties m x ≡ true → lacks bare last (Read n) ≡ true
    read_all n manner.Bare x there tie =
        let same : n ≡ x = eqb-true n x (one_true (n == x) (subst (λ c. 0 < c) (count_in-Read manner.Bare x n) there)) in
        lacks-Read bare last n ∙ ap bare same ∙ tie
    read_all n manner.Held x there tie = absurd (omega (arith, there, count_in-Read manner.Held x n))
    read_all n manner.Converted x there tie = absurd (omega (arith, there, count_in-Read manner.Converted x n))

    hold_all : (n : ℕ) (m : Manner) (x : ℕ) → 0 < count_in m x (Hold n) → ties m x ≡ true → lacks bare last (Hold n) ≡ true
    hold_all n manner.Held x there tie =
        let same : n ≡ x = eqb-true n x (one_true (n == x) (subst (λ c. 0 < c) (count_in-Hold manner.Held x n) there)) in
        lacks-Hold bare last n ∙ ap last same ∙ tie
    hold_all n manner.Bare x there tie = absurd (omega (arith, there, count_in-Hold manner.Bare x n))
    hold_all n manner.Converted x there tie = absurd (omega (arith, there, count_in-Hold manner.Converted x n))

    convert_all : (conversion : Conversion) (n : ℕ) (m : Manner) (x : ℕ) → 0 < count_in m x (Convert conversion n) → ties m x ≡ true → lacks bare last (Convert conversion n) ≡ true
    convert_all conversion n manner.Converted x there tie =
        let same : n ≡ x = eqb-true n x (one_true (n == x) (subst (λ c. 0 < c) (count_in-Convert manner.Converted x conversion n) there)) in
        lacks-Convert bare last conversion n ∙ ap last same ∙ tie
    convert_all conversion n manner.Bare x there tie = absurd (omega (arith, there, count_in-Convert manner.Bare x conversion n))
    convert_all conversion n manner.Held x there tie = absurd (omega (arith, there, count_in-Convert manner.Held x conversion n))

    if_told : (cs bs : List B) (other : B) → Told (If (map g cs) (map g bs) (g other))
    if_told cs bs other = moved _ _ _ _ (lacks-If bare last (map g cs) (map g bs) (g other)) (λ m x. count_in-If m x (map g cs) (map g bs) (g other))
        (both _ _ _ _ (both _ _ _ _ (parts g all cs) (parts g all bs)) (all other))

    level : (y : Expr-F A B) → Told (roll-Expr (map-Expr A B ClockExpr Expr f g y))
    level (Expr-F.Const v) = subst Told (sym (rolls-Const v)) (leaf _ (lacks-Const bare last v) (λ m x. count_in-Const m x v))
    level (Expr-F.Read n) = subst Told (sym (rolls-Read n)) (record {
      some = λ is_true. (manner.Bare, n, subst (λ c. 0 < c) (sym (count_in-Read manner.Bare n n)) (one_of (n == n) (eq-eqb n n refl)), sym (lacks-Read bare last n) ∙ is_true);
      all = read_all n;
    })
    level (Expr-F.Chain ps ops) = subst Told (sym (rolls-Chain (map g ps) ops)) (moved _ _ _ _ (lacks-Chain bare last (map g ps) ops) (λ m x. count_in-Chain m x (map g ps) ops) (parts g all ps))
    level (Expr-F.Relation rel a b) = subst Told (sym (rolls-Relation rel (g a) (g b)))
        (moved _ _ _ _ (lacks-Relation bare last rel (g a) (g b)) (λ m x. count_in-Relation m x rel (g a) (g b)) (both _ _ _ _ (all a) (all b)))
    level (Expr-F.Neg a) = subst Told (sym (rolls-Neg (g a))) (moved _ _ _ _ (lacks-Neg bare last (g a)) (λ m x. count_in-Neg m x (g a)) (all a))
    level (Expr-F.Not a) = subst Told (sym (rolls-Not (g a))) (moved _ _ _ _ (lacks-Not bare last (g a)) (λ m x. count_in-Not m x (g a)) (all a))
    level (Expr-F.If cs bs other) = subst Told (sym (rolls-If (map g cs) (map g bs) (g other))) (if_told cs bs other)
    level (Expr-F.Apply function ps) = subst Told (sym (rolls-Apply function (map g ps))) (moved _ _ _ _ (lacks-Apply bare last function (map g ps)) (λ m x. count_in-Apply m x function (map g ps)) (parts g all ps))
    level (Expr-F.Previous n) = subst Told (sym (rolls-Previous n)) (leaf _ (lacks-Previous bare last n) (λ m x. count_in-Previous m x n))
    level (Expr-F.FirstTick n) = subst Told (sym (rolls-FirstTick n)) (leaf _ (lacks-FirstTick bare last n) (λ m x. count_in-FirstTick m x n))
    level (Expr-F.IntervalTimes n k) = subst Told (sym (rolls-IntervalTimes n k)) (leaf _ (lacks-IntervalTimes bare last n k) (λ m x. count_in-IntervalTimes m x n k))
    level (Expr-F.Hold n) = subst Told (sym (rolls-Hold n)) (record {
      some = λ is_true. (manner.Held, n, subst (λ c. 0 < c) (sym (count_in-Hold manner.Held n n)) (one_of (n == n) (eq-eqb n n refl)), sym (lacks-Hold bare last n) ∙ is_true);
      all = hold_all n;
    })
    level (Expr-F.«Expr::Convert» conversion n) = subst Told (sym (rolls-Convert conversion n)) (record {
      some = λ is_true. (manner.Converted, n, subst (λ c. 0 < c) (sym (count_in-Convert manner.Converted n conversion n)) (one_of (n == n) (eq-eqb n n refl)), sym (lacks-Convert bare last conversion n) ∙ is_true);
      all = convert_all conversion n;
    })
    level (Expr-F.Sample a clock) = subst Told (sym (rolls-Sample (g a) _)) (leaf _ (lacks-Sample bare last (g a) _) (λ m x. count_in-Sample m x (g a) _))

pub told : (bare last : ℕ → Bool) (e : Expr) → Told bare last e
told bare last = ind-Expr (λ c. Unit {0}) (Told bare last) (λ a b is. tt) (λ a y is. subst (λ z. Told bare last (roll-Expr z)) is (level bare last (λ c. c.0) (λ e. e.0) (λ e. e.1) y))
