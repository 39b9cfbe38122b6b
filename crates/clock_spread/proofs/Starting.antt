-- The classes that have a clock at first.
use Rattle.std.proofs.Common.{◌≡◌, ◌∙◌, sym, subst, ℕ, zero, suc, ◌+◌, ◌<◌, ◌↔◌, ◌⊎◌, ⊎_elim, Bool, true, false, List, [], ◌∷◌, ◌++◌, length, Contains, arith}
use Rattle.std.proofs.lemmas.List.Elements.{Contains-push, Contains-push_cases, Contains-append_left}
use Rattle.clock_spread.specs.Queue.{marked}

pub marked_within : (marks : List Bool) (c : ℕ) → marked marks c ≡ true → c < length marks
marked_within [] c e = absurd cc
marked_within (m ∷ marks) zero e = omega arith
marked_within (m ∷ marks) (suc c) e = let h = marked_within marks c e in omega (arith, h)

less_or : (c i : ℕ) → c < i + 1 → (c < i) ⊎ (c ≡ i)
less_or c i lt = grind arith

pub one_marked : (first : List ℕ) (marks : List Bool) (i : ℕ) → marked marks i ≡ true → ((c : ℕ) → Contains first c ↔ ((c < i) × (marked marks c ≡ true)))
    → (c : ℕ) → Contains (first ++ i ∷ []) c ↔ ((c < i + 1) × (marked marks c ≡ true))
one_marked first marks i t h c = (
  λ w. ⊎_elim (λ old. let r = (h c).0 old in (omega (arith, r.0), r.1)) (λ new. (omega (arith, new), subst (λ x. marked marks x ≡ true) new t)) (Contains-push_cases first i c w),
  λ (lt, m). ⊎_elim (λ less. Contains-append_left first (i ∷ []) c ((h c).1 (less, m))) (λ is. subst (λ x. Contains (first ++ i ∷ []) x) (sym is) (Contains-push first i)) (less_or c i lt),
)

pub none_marked : (first : List ℕ) (marks : List Bool) (i : ℕ) → marked marks i ≡ false → ((c : ℕ) → Contains first c ↔ ((c < i) × (marked marks c ≡ true)))
    → (c : ℕ) → Contains first c ↔ ((c < i + 1) × (marked marks c ≡ true))
none_marked first marks i f h c = (
  λ w. let r = (h c).0 w in (omega (arith, r.0), r.1),
  λ (lt, m). ⊎_elim (λ less. (h c).1 (less, m)) (λ is. absurd (clash (sym (subst (λ x. marked marks x ≡ true) is m) ∙ f))) (less_or c i lt),
)
  where
    clash : true ≡ false → ⊥
    clash e = absurd cc
