-- What is counted in an expression is mentioned in it.
use Rattle.std.proofs.Common.{◌≡◌, sym, subst, ℕ, ◌+◌, ◌<◌, ◌⊎◌, inl, inr, ⊎_elim, List, [], ◌∷◌, ◌++◌, map, sum, arith}
use Rattle.std.proofs.lemmas.List.Sums.{sum_by-cons}
use Rattle.flat_model.specs.declared.expression.Expr.{Expr}
use Rattle.flat_model.specs.declared.clock.ClockExpr.{ClockExpr}
use Rattle.flat_model.specs.declared.clock.ClockExpr.TheOpen.{Expr-F}
use Rattle.flat_model.specs.declared.clock.ClockExpr.TheViews.{roll-Expr}
use Rattle.flat_model.specs.declared.clock.ClockExpr.TheFolds.{ind-Expr, fold-roll-Expr, map-Expr}
use Rattle.flat_model.specs.Occurrences.{sum_of_parts, bare_in_level, held_in_level, converted_in_level, bare_count, held_count, converted_count}
use Rattle.clock_terms.specs.Mentions.{Mention, Stands, Holds, Converts, SeenExpr, SeenClock, mentions_of, mentions_of_level, seen, seen_clock}
use Rattle.clock_terms.specs.Said.{IsConversionOf}
use Rattle.clock_ready.proofs.Shown.{nothing, either, is_asked, seen_roll}
use Rattle.clock_sides.proofs.Lists.{Found, found_here, found_left, found_right}

module _ (P : Mention → Type 0) (leaf : Expr-F (Unit {0}) ℕ → ℕ) (count : Expr → ℕ) where
  abbrev counted : Expr-F ClockExpr Expr → Expr-F (Unit {0}) ℕ
  counted y = map-Expr ClockExpr Expr (Unit {0}) ℕ (λ _. tt) count y

  abbrev shown_in : Expr-F ClockExpr Expr → List Mention
  shown_in y = mentions_of_level (map-Expr ClockExpr Expr SeenClock SeenExpr seen_clock seen y)

  -- at each level the count comes from the parts, or from what is mentioned there
  abbrev IsLeaf : Type 0
  IsLeaf = (y : Expr-F ClockExpr Expr) → 0 < leaf (counted y) → (0 < sum_of_parts (counted y)) ⊎ Found P (shown_in y)

  abbrev Shows : Expr → Type 0
  Shows e = 0 < count e → Found P (seen e).mentions

  module _ {A B : Type 0} (f : A → ClockExpr) (g : B → Expr) (all : (b : B) → Shows (g b)) where
    abbrev raised : Expr-F A B → Expr-F ClockExpr Expr
    raised z = map-Expr A B ClockExpr Expr f g z

    parts_show : (ps : List B) → 0 < sum (map count (map g ps)) → Found P (mentions_of (map seen (map g ps)))
    parts_show [] some = nothing some
    parts_show (p ∷ ps) some =
        let split = sum_by-cons (λ m. m) (count (g p)) (map count (map g ps)) in
        ⊎_elim
        (λ h. found_left P (seen (g p)).mentions (mentions_of (map seen (map g ps))) (all p h))
        (λ h. found_right P (seen (g p)).mentions (mentions_of (map seen (map g ps))) (parts_show ps h))
        (either (count (g p)) (sum (map count (map g ps))) (omega (arith, some, split)))

    sums_show : (z : Expr-F A B) → 0 < sum_of_parts (counted (raised z)) → Found P (shown_in (raised z))
    sums_show (Expr-F.Const v) some = nothing some
    sums_show (Expr-F.Read n) some = nothing some
    sums_show (Expr-F.Chain ps ops) some = parts_show ps some
    sums_show (Expr-F.Relation rel a b) some = ⊎_elim
        (λ h. found_left P (seen (g a)).mentions (seen (g b)).mentions (all a h))
        (λ h. found_right P (seen (g a)).mentions (seen (g b)).mentions (all b h))
        (either (count (g a)) (count (g b)) some)
    sums_show (Expr-F.Neg a) some = all a some
    sums_show (Expr-F.Not a) some = all a some
    sums_show (Expr-F.If cs bs other) some =
        let first = mentions_of (map seen (map g cs)) in
        let second = mentions_of (map seen (map g bs)) in
        let third = (seen (g other)).mentions in
        let m = sum (map count (map g cs)) in
        let n = sum (map count (map g bs)) in
        ⊎_elim
        (λ front. found_left P (first ++ second) third (⊎_elim
        (λ h. found_left P first second (parts_show cs h))
        (λ h. found_right P first second (parts_show bs h))
        (either m n front)))
        (λ h. found_right P (first ++ second) third (all other h))
        (either (m + n) (count (g other)) some)
    sums_show (Expr-F.Apply function ps) some = parts_show ps some
    sums_show (Expr-F.Previous n) some = nothing some
    sums_show (Expr-F.FirstTick o) some = nothing some
    sums_show (Expr-F.IntervalTimes o k) some = nothing some
    sums_show (Expr-F.Hold n) some = nothing some
    sums_show (Expr-F.«Expr::Convert» by n) some = nothing some
    sums_show (Expr-F.Sample a clock) some = nothing some

  module _ (count_roll : (y : Expr-F ClockExpr Expr) → count (roll-Expr y) ≡ leaf (counted y)) (is_leaf : IsLeaf) where
    rolled : {A B : Type 0} (f : A → ClockExpr) (g : B → Expr) → ((b : B) → Shows (g b)) → (z : Expr-F A B) → Shows (roll-Expr (map-Expr A B ClockExpr Expr f g z))
    rolled {A = A} {B = B} f g all z some =
        let y = map-Expr A B ClockExpr Expr f g z in
        subst (λ s. Found P s.mentions) (sym (seen_roll y))
        (⊎_elim (λ h. sums_show f g all z h) (λ h. h) (is_leaf y (subst (λ n. 0 < n) (count_roll y) some)))

    pub shown : (e : Expr) → Shows e
    shown = ind-Expr (λ c. Unit {0}) Shows (λ a b is. tt) (λ a z is. subst (λ w. Shows (roll-Expr w)) is (rolled (λ c. c.0) (λ e. e.0) (λ e. e.1) z))

-- a name stands uncut
abbrev pub IsStanding : ℕ → Mention → Type 0
IsStanding y (Stands x) = y ≡ x
IsStanding y _ = ⊥

-- `hold` alone
abbrev pub IsHoldOf : ℕ → Mention → Type 0
IsHoldOf x (Holds y) = x ≡ y
IsHoldOf x _ = ⊥

bare_roll : (x : ℕ) (y : Expr-F ClockExpr Expr) → bare_count x (roll-Expr y) ≡ bare_in_level x (map-Expr ClockExpr Expr (Unit {0}) ℕ (λ _. tt) (bare_count x) y)
unfolding bare_count
bare_roll x y = fold-roll-Expr (Unit {0}) ℕ (λ _. tt) (bare_in_level x) y

held_roll : (x : ℕ) (y : Expr-F ClockExpr Expr) → held_count x (roll-Expr y) ≡ held_in_level x (map-Expr ClockExpr Expr (Unit {0}) ℕ (λ _. tt) (held_count x) y)
unfolding held_count
held_roll x y = fold-roll-Expr (Unit {0}) ℕ (λ _. tt) (held_in_level x) y

converted_roll : (x : ℕ) (y : Expr-F ClockExpr Expr) → converted_count x (roll-Expr y) ≡ converted_in_level x (map-Expr ClockExpr Expr (Unit {0}) ℕ (λ _. tt) (converted_count x) y)
unfolding converted_count
converted_roll x y = fold-roll-Expr (Unit {0}) ℕ (λ _. tt) (converted_in_level x) y

bare_leaf : (x : ℕ) → IsLeaf (IsStanding x) (bare_in_level x) (bare_count x)
bare_leaf x (Expr-F.Const v) some = inl some
bare_leaf x (Expr-F.Read n) some = inr (found_here (IsStanding x) (Stands n) [] (sym (is_asked n x some)))
bare_leaf x (Expr-F.Chain ps ops) some = inl some
bare_leaf x (Expr-F.Relation rel a b) some = inl some
bare_leaf x (Expr-F.Neg a) some = inl some
bare_leaf x (Expr-F.Not a) some = inl some
bare_leaf x (Expr-F.If cs bs other) some = inl some
bare_leaf x (Expr-F.Apply function ps) some = inl some
bare_leaf x (Expr-F.Previous n) some = inl some
bare_leaf x (Expr-F.FirstTick o) some = inl some
bare_leaf x (Expr-F.IntervalTimes o k) some = inl some
bare_leaf x (Expr-F.Hold n) some = inl some
bare_leaf x (Expr-F.«Expr::Convert» by n) some = inl some
bare_leaf x (Expr-F.Sample a clock) some = inl some

held_leaf : (x : ℕ) → IsLeaf (IsHoldOf x) (held_in_level x) (held_count x)
held_leaf x (Expr-F.Const v) some = inl some
held_leaf x (Expr-F.Read n) some = inl some
held_leaf x (Expr-F.Chain ps ops) some = inl some
held_leaf x (Expr-F.Relation rel a b) some = inl some
held_leaf x (Expr-F.Neg a) some = inl some
held_leaf x (Expr-F.Not a) some = inl some
held_leaf x (Expr-F.If cs bs other) some = inl some
held_leaf x (Expr-F.Apply function ps) some = inl some
held_leaf x (Expr-F.Previous n) some = inl some
held_leaf x (Expr-F.FirstTick o) some = inl some
held_leaf x (Expr-F.IntervalTimes o k) some = inl some
held_leaf x (Expr-F.Hold n) some = inr (found_here (IsHoldOf x) (Holds n) [] (sym (is_asked n x some)))
held_leaf x (Expr-F.«Expr::Convert» by n) some = inl some
held_leaf x (Expr-F.Sample a clock) some = inl some

converted_leaf : (x : ℕ) → IsLeaf (IsConversionOf x) (converted_in_level x) (converted_count x)
converted_leaf x (Expr-F.Const v) some = inl some
converted_leaf x (Expr-F.Read n) some = inl some
converted_leaf x (Expr-F.Chain ps ops) some = inl some
converted_leaf x (Expr-F.Relation rel a b) some = inl some
converted_leaf x (Expr-F.Neg a) some = inl some
converted_leaf x (Expr-F.Not a) some = inl some
converted_leaf x (Expr-F.If cs bs other) some = inl some
converted_leaf x (Expr-F.Apply function ps) some = inl some
converted_leaf x (Expr-F.Previous n) some = inl some
converted_leaf x (Expr-F.FirstTick o) some = inl some
converted_leaf x (Expr-F.IntervalTimes o k) some = inl some
converted_leaf x (Expr-F.Hold n) some = inl some
converted_leaf x (Expr-F.«Expr::Convert» by n) some = inr (found_here (IsConversionOf x) (Converts by n) [] (sym (is_asked n x some)))
converted_leaf x (Expr-F.Sample a clock) some = inl some

pub bare_shown : (x : ℕ) (e : Expr) → 0 < bare_count x e → Found (IsStanding x) (seen e).mentions
bare_shown x = shown (IsStanding x) (bare_in_level x) (bare_count x) (bare_roll x) (bare_leaf x)

pub held_shown : (x : ℕ) (e : Expr) → 0 < held_count x e → Found (IsHoldOf x) (seen e).mentions
held_shown x = shown (IsHoldOf x) (held_in_level x) (held_count x) (held_roll x) (held_leaf x)

pub converted_shown : (x : ℕ) (e : Expr) → 0 < converted_count x e → Found (IsConversionOf x) (seen e).mentions
converted_shown x = shown (IsConversionOf x) (converted_in_level x) (converted_count x) (converted_roll x) (converted_leaf x)
