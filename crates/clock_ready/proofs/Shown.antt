-- What stands uncut in an expression is mentioned in it.
use Rattle.std.proofs.Common.{◌≡◌, sym, subst, ℕ, zero, suc, ◌+◌, ◌<◌, ◌==◌, ◌⊎◌, inl, inr, ⊎_elim, List, [], ◌∷◌, ◌++◌, map, sum, Contains, Some, None, arith}
use Rattle.std.proofs.lemmas.Bool.Decides.{eqb_tells}
use Rattle.std.proofs.lemmas.List.Sums.{sum_by-cons}
use Rattle.std.proofs.lemmas.List.Elements.{Contains-append_left, Contains-append_right}
use Rattle.flat_model.specs.declared.expression.Expr.{Expr}
use Rattle.flat_model.specs.declared.clock.ClockExpr.{ClockExpr}
use Rattle.flat_model.specs.declared.clock.ClockExpr.TheOpen.{Expr-F}
use Rattle.flat_model.specs.declared.clock.ClockExpr.TheViews.{roll-Expr}
use Rattle.flat_model.specs.declared.clock.ClockExpr.TheFolds.{ind-Expr, fold-roll-Expr, map-Expr}
use Rattle.flat_model.specs.Occurrences.{one_if, uncut_in_level, uncut_count}
use Rattle.clock_terms.specs.Mentions.{Stands, Ticks, SeenExpr, SeenClock, mentions_of, mentions_of_level, seen_level, seen_clock_level, seen, seen_clock}
use Rattle.clock_terms.proofs.Joining.{here, there}

pub nothing : {A : Type 0} → 0 < 0 → A
nothing h = absurd (omega (arith, h))

pub either : (a b : ℕ) → 0 < a + b → (0 < a) ⊎ (0 < b)
either zero b h = inr (omega (arith, h))
either (suc a) b h = inl (omega arith)

pub is_asked : (n y : ℕ) → 0 < one_if (n == y) → n ≡ y
is_asked n y some = ⊎_elim (λ h. h.1) (λ h. nothing (subst (λ b. 0 < one_if b) h.0 some)) (eqb_tells n y)

uncut_roll : (x : ℕ) (y : Expr-F ClockExpr Expr) → uncut_count x (roll-Expr y) ≡ uncut_in_level x (map-Expr ClockExpr Expr (Unit {0}) ℕ (λ _. tt) (uncut_count x) y)
unfolding uncut_count
uncut_roll x y = fold-roll-Expr (Unit {0}) ℕ (λ _. tt) (uncut_in_level x) y

pub seen_roll : (y : Expr-F ClockExpr Expr) → seen (roll-Expr y) ≡ seen_level (map-Expr ClockExpr Expr SeenClock SeenExpr seen_clock seen y)
unfolding seen seen_clock
seen_roll y = fold-roll-Expr SeenClock SeenExpr seen_clock_level seen_level y

module _ (y : ℕ) where
  abbrev Shows : Expr → Type 0
  Shows e = 0 < uncut_count y e → Contains (seen e).mentions (Stands y)

  module _ {A B : Type 0} (f : A → ClockExpr) (g : B → Expr) (all : (b : B) → Shows (g b)) where
    abbrev raised : Expr-F A B → Expr-F ClockExpr Expr
    raised z = map-Expr A B ClockExpr Expr f g z

    stands : (n : ℕ) → 0 < one_if (n == y) → Contains (Stands n ∷ []) (Stands y)
    stands n some = subst (λ m. Contains (Stands n ∷ []) (Stands m)) (is_asked n y some) (here (Stands n) [])

    parts_show : (ps : List B) → 0 < sum (map (uncut_count y) (map g ps)) → Contains (mentions_of (map seen (map g ps))) (Stands y)
    parts_show [] some = nothing some
    parts_show (p ∷ ps) some =
        let split = sum_by-cons (λ m. m) (uncut_count y (g p)) (map (uncut_count y) (map g ps)) in
        ⊎_elim
        (λ h. Contains-append_left (seen (g p)).mentions (mentions_of (map seen (map g ps))) (Stands y) (all p h))
        (λ h. Contains-append_right (seen (g p)).mentions (mentions_of (map seen (map g ps))) (Stands y) (parts_show ps h))
        (either (uncut_count y (g p)) (sum (map (uncut_count y) (map g ps))) (omega (arith, some, split)))

    level_shows : (z : Expr-F A B) → 0 < uncut_in_level y (map-Expr ClockExpr Expr (Unit {0}) ℕ (λ _. tt) (uncut_count y) (raised z))
        → Contains (mentions_of_level (map-Expr ClockExpr Expr SeenClock SeenExpr seen_clock seen (raised z))) (Stands y)
    level_shows (Expr-F.Const v) some = nothing some
    level_shows (Expr-F.Read n) some = stands n some
    level_shows (Expr-F.Chain ps ops) some = parts_show ps some
    level_shows (Expr-F.Relation rel a b) some = ⊎_elim
        (λ h. Contains-append_left (seen (g a)).mentions (seen (g b)).mentions (Stands y) (all a h))
        (λ h. Contains-append_right (seen (g a)).mentions (seen (g b)).mentions (Stands y) (all b h))
        (either (uncut_count y (g a)) (uncut_count y (g b)) some)
    level_shows (Expr-F.Neg a) some = all a some
    level_shows (Expr-F.Not a) some = all a some
    level_shows (Expr-F.If cs bs other) some =
        let first = mentions_of (map seen (map g cs)) in
        let second = mentions_of (map seen (map g bs)) in
        let third = (seen (g other)).mentions in
        let m = sum (map (uncut_count y) (map g cs)) in
        let n = sum (map (uncut_count y) (map g bs)) in
        ⊎_elim
        (λ front. Contains-append_left (first ++ second) third (Stands y) (⊎_elim
        (λ h. Contains-append_left first second (Stands y) (parts_show cs h))
        (λ h. Contains-append_right first second (Stands y) (parts_show bs h))
        (either m n front)))
        (λ h. Contains-append_right (first ++ second) third (Stands y) (all other h))
        (either (m + n) (uncut_count y (g other)) some)
    level_shows (Expr-F.Apply function ps) some = parts_show ps some
    level_shows (Expr-F.Previous n) some = there Ticks (Stands n ∷ []) (Stands y) (stands n some)
    level_shows (Expr-F.FirstTick None) some = nothing some
    level_shows (Expr-F.FirstTick (Some n)) some = there Ticks (Stands n ∷ []) (Stands y) (stands n some)
    level_shows (Expr-F.IntervalTimes None k) some = nothing some
    level_shows (Expr-F.IntervalTimes (Some n) k) some = there Ticks (Stands n ∷ []) (Stands y) (stands n some)
    level_shows (Expr-F.Hold n) some = nothing some
    level_shows (Expr-F.«Expr::Convert» by n) some = nothing some
    level_shows (Expr-F.Sample a clock) some = nothing some

    rolled : (z : Expr-F A B) → Shows (roll-Expr (raised z))
    rolled z some = subst (λ s. Contains s.mentions (Stands y)) (sym (seen_roll (raised z))) (level_shows z (subst (λ n. 0 < n) (uncut_roll y (raised z)) some))

  pub uncut_shown : (e : Expr) → Shows e
  uncut_shown = ind-Expr (λ c. Unit {0}) Shows (λ a b is. tt) (λ a z is. subst (λ w. Shows (roll-Expr w)) is (rolled (λ c. c.0) (λ e. e.0) (λ e. e.1) z))
