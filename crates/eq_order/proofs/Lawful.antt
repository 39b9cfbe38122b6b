-- The law of an order: what follows from its uses, once all names are reached and all equations used.
use Rattle.std.proofs.Common.{◌≡◌, ◌⊎◌, inl, inr, refl, sym, ap, subst, ◌∙◌, ℕ, zero, suc, ◌<◌, List, [], ◌∷◌, ◌++◌, take, map, Some, slice_get, arith, append_assoc, append-nil}
use Rattle.std.proofs.lemmas.Bool.{cases_eq, cases_order}
use Rattle.std.proofs.lemmas.Option.{same_Some}
use Rattle.std.specs.List.{Contains}
use Rattle.flat_model.specs.Setting.{Setting}
use Rattle.flat_model.specs.Uses.{Use, EquationReads, IsNextUse, AreUsesAfter, reached_names, used_equations}
use Rattle.eq_order.specs.Order.{HasOneUse, OrderLaw}

no_member : (x : ℕ) → Contains [] x → ⊥
no_member x (k, within, is) = omega (arith, within)

-- a number is in a list or not
pub is_in : (xs : List ℕ) (x : ℕ) → Contains xs x ⊎ (Contains xs x → ⊥)
is_in [] x = inr (no_member x)
is_in (y ∷ ys) x = elim (cases_eq y x) [
  | inl same ↦ inl (0, omega arith, same)
  | inr other ↦ elim (is_in ys x) [
    | inl (k, within, is) ↦ inl (suc k, omega (arith, within), is)
    | inr never ↦ inr (λ found. neither y ys x other never found)
  ]
]
  where
    neither : (y : ℕ) (ys : List ℕ) (x : ℕ) → (y ≡ x → ⊥) → (Contains ys x → ⊥) → Contains (y ∷ ys) x → ⊥
    neither y ys x other never (zero, within, is) = other is
    neither y ys x other never (suc k, within, is) = never (k, omega (arith, within), is)

-- each use is the next one behind those before it
pub next_at : (s : Setting) (before rest : List Use) (k : ℕ) (entry : Use) → AreUsesAfter s before rest → slice_get rest k ≡ Some entry
    → IsNextUse s (before ++ take k rest) entry
next_at s before [] k entry are found = cc
next_at s before (first ∷ rest) zero entry are found =
    subst (λ uses. IsNextUse s uses entry) (sym (append-nil before)) (subst (IsNextUse s before) (same_Some first entry found) are.0)
next_at s before (first ∷ rest) (suc k) entry are found =
    subst (λ uses. IsNextUse s uses entry) (append_assoc before (first ∷ []) (take k rest)) (next_at s (before ++ first ∷ []) rest k entry are.1 found)

place_of : (part : Use → ℕ) (uses : List Use) (x : ℕ) → Contains (map part uses) x → (k : ℕ) × (entry : Use) × (slice_get uses k ≡ Some entry) × (part entry ≡ x)
place_of part [] x found = absurd (no_member x found)
place_of part (first ∷ rest) x (zero, within, is) = (0, first, refl, is)
place_of part (first ∷ rest) x (suc k, within, is) = let (j, entry, found, same) = place_of part rest x (k, omega (arith, within), is) in (suc j, entry, found, same)

in_take : (part : Use → ℕ) (uses : List Use) (j k : ℕ) (entry : Use) → j < k → slice_get uses j ≡ Some entry → Contains (map part (take k uses)) (part entry)
in_take part uses j zero entry below found = absurd (omega (arith, below))
in_take part [] j (suc k) entry below found = cc
in_take part (first ∷ rest) zero (suc k) entry below found = (0, omega arith, ap part (same_Some first entry found))
in_take part (first ∷ rest) (suc j) (suc k) entry below found =
    let (i, within, is) = in_take part rest j k entry (omega (arith, below)) found in (suc i, omega (arith, within), is)

-- a number that a use has is in one alone, where no use has that of one before it
one_use : (part : Use → ℕ) (uses : List Use) (x : ℕ) → Contains (map part uses) x
    → ((k : ℕ) (entry : Use) → slice_get uses k ≡ Some entry → Contains (map part (take k uses)) (part entry) → ⊥) → HasOneUse part uses x
one_use part uses x found fresh =
    let (k, entry, at, is) = place_of part uses x found in (
      k,
      entry,
      at,
      is,
      λ j other there same. elim (cases_order j k) [
        | inl e ↦ e
        | inr apart ↦ elim apart [
          | inl below ↦ absurd (fresh k entry at (subst (Contains (map part (take k uses))) (same ∙ sym is) (in_take part uses j k other below there)))
          | inr above ↦ absurd (fresh j other there (subst (Contains (map part (take j uses))) (is ∙ sym same) (in_take part uses k j entry above at)))
        ]
      ],
    )

pub order_law : OrderLaw
order_law s uses order = record {
  names = λ x own. elim (is_in (reached_names uses) x) [
    | inl found ↦ one_use (λ entry. entry.name) uses x found (λ k entry at before. (next_at s [] uses k entry order.uses_are at).reaches.unreached.later before)
    | inr never ↦ absurd (order.reached x (record { name = own.0; found = own.1; valued = own.2; own = own.3; later = never }))
  ];
  equations = λ i left right clause is. elim (is_in (used_equations uses) i) [
    | inl found ↦ one_use (λ entry. entry.equation) uses i found (λ k entry at before. (next_at s [] uses k entry order.uses_are at).reaches.unused before)
    | inr never ↦ absurd (order.used i (left, right, clause, is, never))
  ];
  earlier = λ k entry at y reads own. elim (is_in (reached_names (take k uses)) y) [
    | inl before ↦ inr before
    | inr never ↦
        let reach = (next_at s [] uses k entry order.uses_are at).reaches in
        let same : reads.0 ≡ reach.equation = same_Some reads.0 reach.equation (sym reads.1 ∙ reach.found) in
        inl (reach.only y (subst (λ e. EquationReads s entry.equation e y) same reads.2) (record { name = own.0; found = own.1; valued = own.2; own = own.3; later = never }))
  ];
}
