-- Units of the classes and the leaves made from them.
use Rattle.std.proofs.Common.{◌≡◌, ◌∙◌, refl, sym, subst, ap, ap₂, ℕ, ◌+◌, ◌<◌, ⊎_elim, List, [], ◌∷◌, ◌++◌, length, get_or, slice_get, Some, Bool, true, false, ◌==◌, ◌&&◌, Contains, arith, eq-eqb}
use Rattle.std.specs.Cmp.{IsEquivalence}
use Rattle.std.specs.List.{dedup}
use Rattle.std.proofs.lemmas.List.Kept.{Contains-dedup}
use Rattle.std.proofs.lemmas.Bool.{and_from, and_parts, eqb-true}
use Rattle.std.proofs.lemmas.List.Elements.{Contains-append_left, Contains-append_right, Contains-append_cases}
use Rattle.std.proofs.lemmas.Option.{same_Some}
use Rattle.rational_time.specs.declared.ratio.Ratio.{Ratio}
use Rattle.flat_model.specs.declared.clock.Clock.{Clock}
use Rattle.flat_model.specs.declared.clock.Clock.TheVariants.{Periodic}
use Rattle.tick_plan.specs.private.Course.{IsPeriodic}
use Rattle.tick_plan.specs.private.Grid.{AreUnits, CountsTo}
use Rattle.tick_plan.specs.private.Leaves.{IsLeafOf, leaf_at}
use Rattle.tick_plan.specs.Making.{AreCountable}
use Rattle.tick_plan.specs.declared.leaves.Leaf.{Leaf}
use Rattle.tick_plan.proofs.Growing.{last_or_before, before_end, at_end, only_one}
use Rattle.tick_plan.proofs.FirstPlaces.{units_are}

-- the units of one clock more
pub units_more : (clocks : List Clock) (den limit i : ℕ) (clock : Clock) (firsts steps : List ℕ) (first step : ℕ) → 0 < den → AreCountable clocks → slice_get clocks i ≡ Some clock → length firsts ≡ i → length steps ≡ i
    → ((p s : Ratio) → clock ≡ Periodic p s → CountsTo den limit s first × CountsTo den limit p step)
    → ((j : ℕ) (p s : Ratio) → j < i → slice_get clocks j ≡ Some (Periodic p s) → AreUnits den limit p s (get_or firsts j 0) (get_or steps j 0))
    → (j : ℕ) (p s : Ratio) → j < i + 1 → slice_get clocks j ≡ Some (Periodic p s) → AreUnits den limit p s (get_or (firsts ++ first ∷ []) j 0) (get_or (steps ++ step ∷ []) j 0)
units_more clocks den limit i clock firsts steps first step grain countable at long wide own before j p s lt is = ⊎_elim
    (λ here. let counts = own p s (same_Some _ _ (sym at ∙ ap (slice_get clocks) (sym here) ∙ is)) in
    rw (at_end firsts first j (long ∙ sym here), at_end steps step j (wide ∙ sym here))
    (units_are den limit p s first step grain (countable j p s is).moving counts.0 counts.1))
    (λ old. rw (before_end firsts first j (omega (arith, long, old)), before_end steps step j (omega (arith, wide, old))) (before j p s old is))
    (last_or_before j i lt)

-- one leaf more
pub leaf_more : (clocks : List Clock) (firsts steps : List ℕ) (i : ℕ) (period start : Ratio) (leaves : List Leaf) → slice_get clocks i ≡ Some (Periodic period start)
    → ((leaf : Leaf) → Contains leaves leaf → IsLeafOf clocks firsts steps leaf)
    → (leaf : Leaf) → Contains (leaves ++ leaf_at firsts steps i ∷ []) leaf → IsLeafOf clocks firsts steps leaf
leaf_more clocks firsts steps i period start leaves is each leaf h = ⊎_elim
    (λ old. each leaf old)
    (λ new. record { clock = i; period = period; start = start; is = is; leaf_is = sym (only_one (leaf_at firsts steps i) leaf new) })
    (Contains-append_cases leaves (leaf_at firsts steps i ∷ []) leaf h)

pub all_more : (clocks : List Clock) (firsts steps : List ℕ) (i : ℕ) (leaves : List Leaf)
    → ((j : ℕ) (p s : Ratio) → j < i → IsPeriodic clocks j p s → Contains leaves (leaf_at firsts steps j))
    → (j : ℕ) (p s : Ratio) → j < i + 1 → IsPeriodic clocks j p s → Contains (leaves ++ leaf_at firsts steps i ∷ []) (leaf_at firsts steps j)
all_more clocks firsts steps i leaves all j p s lt is = ⊎_elim
    (λ here. Contains-append_right leaves (leaf_at firsts steps i ∷ []) (leaf_at firsts steps j) (0, omega arith, ap (leaf_at firsts steps) (sym here)))
    (λ old. Contains-append_left leaves (leaf_at firsts steps i ∷ []) (leaf_at firsts steps j) (all j p s old is))
    (last_or_before j i lt)

-- a clock that is not one in seconds gives no leaf
pub all_still : (clocks : List Clock) (firsts steps : List ℕ) (i : ℕ) (clock : Clock) (leaves : List Leaf) → slice_get clocks i ≡ Some clock → ((p s : Ratio) → clock ≡ Periodic p s → ⊥)
    → ((j : ℕ) (p s : Ratio) → j < i → IsPeriodic clocks j p s → Contains leaves (leaf_at firsts steps j))
    → (j : ℕ) (p s : Ratio) → j < i + 1 → IsPeriodic clocks j p s → Contains leaves (leaf_at firsts steps j)
all_still clocks firsts steps i clock leaves at other all j p s lt is = ⊎_elim
    (λ here. absurd (other p s (same_Some _ _ (sym at ∙ ap (slice_get clocks) (sym here) ∙ is))))
    (λ old. all j p s old is)
    (last_or_before j i lt)

both_true : (a b : Bool) → (a ≡ true → b ≡ true) → (b ≡ true → a ≡ true) → a ≡ b
both_true true b f g = sym (f refl)
both_true false true f g = g refl
both_true false false f g = refl

-- leaves that are no more than once in a list
module _ (E : Leaf → Leaf → Bool) (parts : (x y : Leaf) → E x y ≡ ((x.first == y.first) && (x.step == y.step))) where
  equal : (x y : Leaf) → E x y ≡ true → x ≡ y
  equal x y h = let both = and_parts _ _ (sym (parts x y) ∙ h) in ap₂ (λ (f s : ℕ). leaf_with f s) (eqb-true x.first y.first both.0) (eqb-true x.step y.step both.1)
    where
      leaf_with : ℕ → ℕ → Leaf
      leaf_with f s = record { first = f; step = s }

  same : (x : Leaf) → E x x ≡ true
  same x = parts x x ∙ and_from _ _ (eq-eqb x.first x.first refl) (eq-eqb x.step x.step refl)

  equivalence : IsEquivalence E
  equivalence = record {
    refl = same;
    symm = λ x y. both_true (E x y) (E y x) (swapped x y) (swapped y x);
    congr = λ x y z h. ap (λ w. E w z) (equal x y h);
  }
    where
      swapped : (x y : Leaf) → E x y ≡ true → E y x ≡ true
      swapped x y h = subst (λ z. E z x ≡ true) (equal x y h) (same x)

  pub kept_once : (xs : List Leaf) (x : Leaf) → Contains xs x → Contains (dedup E xs) x
  kept_once xs x h = Contains-dedup equivalence equal xs x h

-- the start and the period of one leaf more
pub parts_more : (leaves : List Leaf) (i : ℕ) (leaf : Leaf) (firsts steps : List ℕ) → slice_get leaves i ≡ Some leaf → length firsts ≡ i → length steps ≡ i
    → ((j : ℕ) (l : Leaf) → j < i → slice_get leaves j ≡ Some l → (get_or firsts j 0 ≡ l.first) × (get_or steps j 0 ≡ l.step))
    → (j : ℕ) (l : Leaf) → j < i + 1 → slice_get leaves j ≡ Some l → (get_or (firsts ++ leaf.first ∷ []) j 0 ≡ l.first) × (get_or (steps ++ leaf.step ∷ []) j 0 ≡ l.step)
parts_more leaves i leaf firsts steps at long wide before j l lt is = ⊎_elim
    (λ here. let one : leaf ≡ l = same_Some _ _ (sym at ∙ ap (slice_get leaves) (sym here) ∙ is) in
    (at_end firsts leaf.first j (long ∙ sym here) ∙ ap (λ x. x.first) one, at_end steps leaf.step j (wide ∙ sym here) ∙ ap (λ x. x.step) one))
    (λ old. let own = before j l old is in (before_end firsts leaf.first j (omega (arith, long, old)) ∙ own.0, before_end steps leaf.step j (omega (arith, wide, old)) ∙ own.1))
    (last_or_before j i lt)
