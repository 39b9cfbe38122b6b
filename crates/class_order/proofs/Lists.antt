-- Elements of lists, by their places.
use Rattle.std.proofs.Common.{◌≡◌, refl, ap, ◌∙◌, ℕ, zero, suc, ◌<◌, ◌⊎◌, inl, inr, Bool, true, false, List, [], ◌∷◌, length, map, Some, slice_get, slice_set, slice_index_or, Contains, arith, ◌||◌}
use Rattle.std.specs.List.{list_any}
use Rattle.std.proofs.lemmas.Option.{slice_get_within, slice_get-get_or, get_or_from_slice_get}

module _ {A : Type 0} where
  -- an element of a list stands at a place
  pub stands : (xs : List A) (y : A) → Contains xs y → (at : ℕ) × (slice_get xs at ≡ Some y)
  stands xs y (k, within, same) = (k, slice_get-get_or xs k y within ∙ ap Some same)

  pub listed : (xs : List A) (at : ℕ) (y : A) → slice_get xs at ≡ Some y → Contains xs y
  listed xs at y is = (at, slice_get_within xs at y is, get_or_from_slice_get xs at y y is)

  pub head_or_tail : (x : A) (xs : List A) (y : A) → Contains (x ∷ xs) y → (x ≡ y) ⊎ Contains xs y
  head_or_tail x xs y (zero, within, same) = inl same
  head_or_tail x xs y (suc k, within, same) = inr (k, omega (arith, within), same)

  pub in_tail : (x : A) (xs : List A) (y : A) → Contains xs y → Contains (x ∷ xs) y
  in_tail x xs y at = (suc at.0, omega (arith, at.1), at.2)

  pub in_head : (x : A) (xs : List A) → Contains (x ∷ xs) x
  in_head x xs = (0, omega arith, refl)

  -- what stands at a place after a write is what was written, or what stood there
  pub set_or : (xs : List A) (i : ℕ) (v : A) (j : ℕ) (d : A) → i < length xs
      → ((i ≡ j) × (slice_index_or (slice_set xs i v) j d ≡ v)) ⊎ ((i ≡ j → ⊥) × (slice_index_or (slice_set xs i v) j d ≡ slice_index_or xs j d))
  set_or [] i v j d within = absurd (omega (arith, within))
  set_or (x ∷ xs) zero v zero d within = inl (refl, refl)
  set_or (x ∷ xs) zero v (suc j) d within = inr (λ e. omega (arith, e), refl)
  set_or (x ∷ xs) (suc i) v zero d within = inr (λ e. omega (arith, e), refl)
  set_or (x ∷ xs) (suc i) v (suc j) d within = by (set_or xs i v j d (omega (arith, within)))
    where
      by : ((i ≡ j) × (slice_index_or (slice_set xs i v) j d ≡ v)) ⊎ ((i ≡ j → ⊥) × (slice_index_or (slice_set xs i v) j d ≡ slice_index_or xs j d))
          → ((suc i ≡ suc j) × (slice_index_or (slice_set xs i v) j d ≡ v)) ⊎ ((suc i ≡ suc j → ⊥) × (slice_index_or (slice_set xs i v) j d ≡ slice_index_or xs j d))
      by (inl here) = inl (ap suc here.0, here.1)
      by (inr other) = inr (λ e. other.0 (omega (arith, e)), other.1)

  -- a test that some element passes
  pub any_at : (test : A → Bool) (xs : List A) (x : A) → Contains xs x → test x ≡ true → list_any test xs ≡ true
  any_at test [] x at is = absurd (omega (arith, at.1))
  any_at test (y ∷ xs) x at is = by (test y) refl (head_or_tail y xs x at) (λ rest. any_at test xs x rest is)
    where
      by : (b : Bool) → test y ≡ b → (y ≡ x) ⊎ Contains xs x → (Contains xs x → list_any test xs ≡ true) → (b || list_any test xs) ≡ true
      by true here where_it again = refl
      by false here (inl same) again = absurd (cc (here, ap test same, is))
      by false here (inr rest) again = again rest

  pub any_of : (test : A → Bool) (xs : List A) → list_any test xs ≡ true → (x : A) × Contains xs x × (test x ≡ true)
  any_of test [] is = absurd (cc is)
  any_of test (y ∷ xs) is = by (test y) refl is (any_of test xs)
    where
      by : (b : Bool) → test y ≡ b → (b || list_any test xs) ≡ true → (list_any test xs ≡ true → (x : A) × Contains xs x × (test x ≡ true))
          → (x : A) × Contains (y ∷ xs) x × (test x ≡ true)
      by true here all again = (y, in_head y xs, here)
      by false here all again = let more = again all in (more.0, in_tail y xs more.0 more.1, more.2)

module _ {A B : Type 0} (f : A → B) where
  pub get_map : (xs : List A) (i : ℕ) (y : B) → slice_get (map f xs) i ≡ Some y → (x : A) × (slice_get xs i ≡ Some x) × (f x ≡ y)
  get_map [] i y at = absurd (cc at)
  get_map (x ∷ xs) zero y at = (x, refl, cc at)
  get_map (x ∷ xs) (suc i) y at = get_map xs i y at

  pub map_get : (xs : List A) (i : ℕ) (x : A) → slice_get xs i ≡ Some x → slice_get (map f xs) i ≡ Some (f x)
  map_get [] i x at = absurd (cc at)
  map_get (z ∷ xs) zero x at = let same : z ≡ x = cc at in ap (λ y. Some (f y)) same
  map_get (z ∷ xs) (suc i) x at = map_get xs i x at

  pub same_length : (xs : List A) → length (map f xs) ≡ length xs
  same_length [] = refl
  same_length (x ∷ xs) = ap suc (same_length xs)
