-- The names that are gathered are those that an expression asks for.
use Rattle.std.proofs.Common.{◌≡◌, refl, sym, subst, ℕ, zero, suc, ◌+◌, ◌<◌, ◌==◌, Bool, true, false, List, [], ◌∷◌, ◌++◌, map, Contains, ◌⊎◌, inl, inr, arith}
use Rattle.std.proofs.lemmas.Bool.{eqb-true}
use Rattle.std.proofs.lemmas.List.Elements.{Contains-append_cases, Contains-append_left, Contains-append_right}
use Rattle.flat_model.specs.declared.expression.Expr.{Expr}
use Rattle.flat_model.specs.declared.clock.ClockExpr.{ClockExpr}
use Rattle.flat_model.specs.declared.clock.ClockExpr.TheOpen.{Expr-F}
use Rattle.flat_model.specs.declared.clock.ClockExpr.TheViews.{roll-Expr}
use Rattle.flat_model.specs.declared.clock.ClockExpr.TheFolds.{ind-Expr, fold-roll-Expr, map-Expr}
use Rattle.flat_model.specs.Occurrences.{one_if}
use Rattle.flat_model.specs.Asks.{Asking, OfNow, OfLast, OfPrevious, Asked, here, is_now, is_last, is_previous, is_first, is_interval, earlier, all_asked, asked_in_level, asked}
use Rattle.flat_model.proofs.Asks.{asked_roll, one_itself}
use Rattle.part_groups.specs.Units.{Names}
use Rattle.part_groups.specs.private.Asking.{joined, names_in_level, names_in}

names_roll : (y : Expr-F ClockExpr Expr) → names_in (roll-Expr y) ≡ names_in_level (map-Expr ClockExpr Expr (Unit {0}) (List ℕ) (λ _. tt) names_in y)
unfolding names_in
names_roll y = fold-roll-Expr (Unit {0}) (List ℕ) (λ _. tt) names_in_level y

-- a name is asked for, in one of three ways
abbrev AsksOne : (Asking → ℕ) → ℕ → Type 0
AsksOne f x = (0 < f (OfNow x)) ⊎ ((0 < f (OfLast x)) ⊎ (0 < f (OfPrevious x)))

abbrev AsksBy : Asked → ℕ → Type 0
AsksBy asks x = (d : ℕ) × AsksOne (asks d) x

-- the names are those that are asked for
record Tells (names : List ℕ) (asks : Asked) : Type 0 where
  just : (x : ℕ) → Contains names x → AsksBy asks x
  whole : (x : ℕ) → AsksBy asks x → Contains names x

up : (f g : Asking → ℕ) → ((q : Asking) → 0 < f q → 0 < g q) → (x : ℕ) → AsksOne f x → AsksOne g x
up f g more x (inl h) = inl (more (OfNow x) h)
up f g more x (inr (inl h)) = inr (inl (more (OfLast x) h))
up f g more x (inr (inr h)) = inr (inr (more (OfPrevious x) h))

none_asks : (f : Asking → ℕ) (x : ℕ) → f (OfNow x) ≡ 0 → f (OfLast x) ≡ 0 → f (OfPrevious x) ≡ 0 → AsksOne f x → ⊥
none_asks f x now last previous (inl h) = omega (arith, h, now)
none_asks f x now last previous (inr (inl h)) = omega (arith, h, last)
none_asks f x now last previous (inr (inr h)) = omega (arith, h, previous)

same_one : (x y : ℕ) → 0 < one_if (x == y) → x ≡ y
same_one x y h = by_test (x == y) refl h
  where
    by_test : (b : Bool) → x == y ≡ b → 0 < one_if b → x ≡ y
    by_test true e h = eqb-true x y e
    by_test false e h = absurd (omega (arith, h))

only : (x y : ℕ) → Contains (x ∷ []) y → x ≡ y
only x y (zero, lt, is) = is
only x y (suc i, lt, is) = absurd (omega (arith, lt))

alone : (x y : ℕ) → x ≡ y → Contains (x ∷ []) y
alone x y is = (0, omega arith, is)

tells_now : (x : ℕ) → Tells (x ∷ []) (here (is_now x))
tells_now x = record {
  just = λ y there. (0, subst (AsksOne (is_now x)) (only x y there) (inl (one_itself x)));
  whole = whole;
}
  where
    whole : (y : ℕ) → AsksBy (here (is_now x)) y → Contains (x ∷ []) y
    whole y (zero, inl h) = alone x y (same_one x y h)
    whole y (zero, inr (inl h)) = absurd (omega (arith, h))
    whole y (zero, inr (inr h)) = absurd (omega (arith, h))
    whole y (suc d, asks) = absurd (none_asks (λ q. 0) y refl refl refl asks)

tells_last : (x : ℕ) → Tells (x ∷ []) (here (is_last x))
tells_last x = record {
  just = λ y there. (0, subst (AsksOne (is_last x)) (only x y there) (inr (inl (one_itself x))));
  whole = whole;
}
  where
    whole : (y : ℕ) → AsksBy (here (is_last x)) y → Contains (x ∷ []) y
    whole y (zero, inl h) = absurd (omega (arith, h))
    whole y (zero, inr (inl h)) = alone x y (same_one x y h)
    whole y (zero, inr (inr h)) = absurd (omega (arith, h))
    whole y (suc d, asks) = absurd (none_asks (λ q. 0) y refl refl refl asks)

tells_previous : (x : ℕ) → Tells (x ∷ []) (here (is_previous x))
tells_previous x = record {
  just = λ y there. (0, subst (AsksOne (is_previous x)) (only x y there) (inr (inr (one_itself x))));
  whole = whole;
}
  where
    whole : (y : ℕ) → AsksBy (here (is_previous x)) y → Contains (x ∷ []) y
    whole y (zero, inl h) = absurd (omega (arith, h))
    whole y (zero, inr (inl h)) = absurd (omega (arith, h))
    whole y (zero, inr (inr h)) = alone x y (same_one x y h)
    whole y (suc d, asks) = absurd (none_asks (λ q. 0) y refl refl refl asks)

nothing : (x : ℕ) → Contains [] x → ⊥
nothing x (i, lt, is) = omega (arith, lt)

-- no name is asked for
tells_none : (f : Asking → ℕ) → ((x : ℕ) → f (OfNow x) ≡ 0) → ((x : ℕ) → f (OfLast x) ≡ 0) → ((x : ℕ) → f (OfPrevious x) ≡ 0) → Tells [] (here f)
tells_none f now last previous = record { just = λ x there. absurd (nothing x there); whole = whole }
  where
    whole : (x : ℕ) → AsksBy (here f) x → Contains [] x
    whole x (zero, asks) = absurd (none_asks f x (now x) (last x) (previous x) asks)
    whole x (suc d, asks) = absurd (none_asks (λ q. 0) x refl refl refl asks)

tells_nothing : Tells [] (λ d q. 0)
tells_nothing = record { just = λ x there. absurd (nothing x there); whole = λ x asks. absurd (none_asks (λ q. 0) x refl refl refl asks.1) }

tells_both : (xs ys : List ℕ) (a b : Asked) → Tells xs a → Tells ys b → Tells (xs ++ ys) (λ d q. a d q + b d q)
tells_both xs ys a b one two = record { just = just; whole = λ x (d, asks). by_way x d asks }
  where
    just : (x : ℕ) → Contains (xs ++ ys) x → AsksBy (λ d q. a d q + b d q) x
    just x there = elim (Contains-append_cases xs ys x there) [
      | inl left ↦ let r = one.just x left in (r.0, up (a r.0) (λ q. a r.0 q + b r.0 q) (λ q some. omega (arith, some)) x r.1)
      | inr right ↦ let r = two.just x right in (r.0, up (b r.0) (λ q. a r.0 q + b r.0 q) (λ q some. omega (arith, some)) x r.1)
    ]

    split : (m n : ℕ) → 0 < m + n → (0 < m) ⊎ (0 < n)
    split zero n some = inr (omega (arith, some))
    split (suc m) n some = inl (omega arith)

    left : (x d : ℕ) → AsksOne (a d) x → Contains (xs ++ ys) x
    left x d asks = Contains-append_left xs ys x (one.whole x (d, asks))

    right : (x d : ℕ) → AsksOne (b d) x → Contains (xs ++ ys) x
    right x d asks = Contains-append_right xs ys x (two.whole x (d, asks))

    by_way : (x d : ℕ) → AsksOne (λ q. a d q + b d q) x → Contains (xs ++ ys) x
    by_way x d (inl h) = elim (split (a d (OfNow x)) (b d (OfNow x)) h) [ inl some ↦ left x d (inl some) | inr some ↦ right x d (inl some) ]
    by_way x d (inr (inl h)) = elim (split (a d (OfLast x)) (b d (OfLast x)) h) [ inl some ↦ left x d (inr (inl some)) | inr some ↦ right x d (inr (inl some)) ]
    by_way x d (inr (inr h)) = elim (split (a d (OfPrevious x)) (b d (OfPrevious x)) h) [ inl some ↦ left x d (inr (inr some)) | inr some ↦ right x d (inr (inr some)) ]

-- one moment earlier
tells_earlier : (xs : List ℕ) (a : Asked) → Tells xs a → Tells xs (earlier a)
tells_earlier xs a tells = record { just = λ x there. (let r = tells.just x there in (suc r.0, r.1)); whole = whole }
  where
    whole : (x : ℕ) → AsksBy (earlier a) x → Contains xs x
    whole x (zero, asks) = absurd (none_asks (λ q. 0) x refl refl refl asks)
    whole x (suc d, asks) = tells.whole x (d, asks)

tells_as : (xs : List ℕ) (a b : Asked) → ((d : ℕ) (q : Asking) → a d q ≡ b d q) → Tells xs a → Tells xs b
tells_as xs a b same tells = record {
  just = λ x there. (let r = tells.just x there in (r.0, up (a r.0) (b r.0) (λ q some. subst (λ n. 0 < n) (same r.0 q) some) x r.1));
  whole = λ x (d, asks). tells.whole x (d, up (b d) (a d) (λ q some. subst (λ n. 0 < n) (sym (same d q)) some) x asks);
}

abbrev TellsIn : Expr → Type 0
TellsIn e = Tells (names_in e) (asked e)

module _ {A B : Type 0} (f : A → ClockExpr) (g : B → Expr) (each : (b : B) → TellsIn (g b)) where
  parts : (zs : List B) → Tells (joined (map names_in (map g zs))) (all_asked (map asked (map g zs)))
  parts [] = tells_nothing
  parts (z ∷ zs) = tells_both (names_in (g z)) (joined (map names_in (map g zs))) (asked (g z)) (all_asked (map asked (map g zs))) (each z) (parts zs)

  abbrev names_at : Expr-F A B → List ℕ
  names_at y = names_in_level (map-Expr ClockExpr Expr (Unit {0}) (List ℕ) (λ _. tt) names_in (map-Expr A B ClockExpr Expr f g y))

  abbrev asked_at : Expr-F A B → Asked
  asked_at y = asked_in_level (map-Expr ClockExpr Expr (Unit {0}) Asked (λ _. tt) asked (map-Expr A B ClockExpr Expr f g y))

  level : (y : Expr-F A B) → Tells (names_at y) (asked_at y)
  level (Expr-F.Const v) = tells_nothing
  level (Expr-F.Read x) = tells_now x
  level (Expr-F.Chain ps ops) = parts ps
  level (Expr-F.Relation rel p q) = tells_both (names_in (g p)) (names_in (g q)) (asked (g p)) (asked (g q)) (each p) (each q)
  level (Expr-F.Neg p) = each p
  level (Expr-F.Not p) = each p
  level (Expr-F.If cs bs other) =
      let tests = all_asked (map asked (map g cs)) in
      let values = all_asked (map asked (map g bs)) in
      let last = asked (g other) in
      tells_as (names_at (Expr-F.If cs bs other)) (λ d q. tests d q + (values d q + last d q)) (asked_at (Expr-F.If cs bs other)) (λ d q. omega arith)
      (tells_both (joined (map names_in (map g cs))) (joined (map names_in (map g bs)) ++ names_in (g other)) tests (λ d q. values d q + last d q) (parts cs)
      (tells_both (joined (map names_in (map g bs))) (names_in (g other)) values last (parts bs) (each other)))
  level (Expr-F.Apply function ps) = parts ps
  level (Expr-F.Previous x) = tells_previous x
  level (Expr-F.FirstTick x) = tells_none is_first (λ x. refl) (λ x. refl) (λ x. refl)
  level (Expr-F.IntervalTimes x n) = tells_none is_interval (λ x. refl) (λ x. refl) (λ x. refl)
  level (Expr-F.Hold x) = tells_last x
  level (Expr-F.«Expr::Convert» conversion x) = tells_last x
  level (Expr-F.Sample p clock) = tells_earlier (names_in (g p)) (asked (g p)) (each p)

  rolled : (y : Expr-F A B) → TellsIn (roll-Expr (map-Expr A B ClockExpr Expr f g y))
  rolled y =
      let z = map-Expr A B ClockExpr Expr f g y in
      subst (λ ns. Tells ns (asked (roll-Expr z))) (sym (names_roll z)) (tells_as (names_at y) (asked_at y) (asked (roll-Expr z)) (λ d q. sym (asked_roll z d q)) (level y))

tells : (e : Expr) → TellsIn e
tells = ind-Expr (λ c. Unit {0}) TellsIn (λ x y is. tt) (λ x y is. subst (λ z. TellsIn (roll-Expr z)) is (rolled (λ c. c.0) (λ e. e.0) (λ e. e.1) y))

pub names_just : (e : Expr) (x : ℕ) → Contains (names_in e) x → Names e x
names_just e x there = (tells e).just x there

pub names_whole : (e : Expr) (x : ℕ) → Names e x → Contains (names_in e) x
names_whole e x asks = (tells e).whole x asks
