-- Two lists, place by place.
use Rattle.std.proofs.Common.{◌≡◌, refl, sym, subst, ℕ, zero, suc, List, [], ◌∷◌, ◌++◌, Some, slice_get}
use Rattle.std.proofs.lemmas.Option.{none-some, same_Some}

module _ {A B : Type 0} (P : A → B → Type 0) where
  -- each of the one list goes with that at its place in the other
  abbrev pub Pairs : List A → List B → Type 0
  Pairs [] [] = Unit {0}
  Pairs [] (y ∷ ys) = ⊥
  Pairs (x ∷ xs) [] = ⊥
  Pairs (x ∷ xs) (y ∷ ys) = P x y × Pairs xs ys

  pub pairs_of : (xs : List A) (ys : List B) → ((i : ℕ) (x : A) → slice_get xs i ≡ Some x → (y : B) × (slice_get ys i ≡ Some y) × P x y) → ((i : ℕ) (y : B) → slice_get ys i ≡ Some y → (x : A) × (slice_get xs i ≡ Some x)) → Pairs xs ys
  pairs_of [] [] each more = tt
  pairs_of [] (y ∷ ys) each more = let (x, found) = more 0 y refl in absurd (none-some x found)
  pairs_of (x ∷ xs) [] each more = let (y, found, is) = each 0 x refl in absurd (none-some y found)
  pairs_of (x ∷ xs) (y ∷ ys) each more =
      let (z, found, is) = each 0 x refl in (
        subst (P x) (sym (same_Some y z found)) is,
        pairs_of xs ys (λ i a at. each (suc i) a at) (λ i b at. more (suc i) b at),
      )

  pub pair_at : (xs : List A) (ys : List B) → Pairs xs ys → (i : ℕ) (x : A) → slice_get xs i ≡ Some x → (y : B) × (slice_get ys i ≡ Some y) × P x y
  pair_at [] ys pairs i x found = absurd (none-some x found)
  pair_at (a ∷ xs) [] pairs i x found = absurd pairs
  pair_at (a ∷ xs) (b ∷ ys) (own, rest) zero x found = (b, refl, subst (λ z. P z b) (same_Some a x found) own)
  pair_at (a ∷ xs) (b ∷ ys) (own, rest) (suc i) x found = pair_at xs ys rest i x found

  pub pair_back : (xs : List A) (ys : List B) → Pairs xs ys → (i : ℕ) (y : B) → slice_get ys i ≡ Some y → (x : A) × (slice_get xs i ≡ Some x)
  pair_back xs [] pairs i y found = absurd (none-some y found)
  pair_back [] (b ∷ ys) pairs i y found = absurd pairs
  pair_back (a ∷ xs) (b ∷ ys) (own, rest) zero y found = (a, refl)
  pair_back (a ∷ xs) (b ∷ ys) (own, rest) (suc i) y found = pair_back xs ys rest i y found

  pub pairs_append : (xs : List A) (ys : List B) (more : List A) (others : List B) → Pairs xs ys → Pairs more others → Pairs (xs ++ more) (ys ++ others)
  pairs_append [] [] more others one two = two
  pairs_append [] (y ∷ ys) more others one two = absurd one
  pairs_append (x ∷ xs) [] more others one two = absurd one
  pairs_append (x ∷ xs) (y ∷ ys) more others (own, rest) two = (own, pairs_append xs ys more others rest two)
