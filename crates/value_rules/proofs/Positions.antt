-- The first place of a list that passes a test.
use Rattle.std.proofs.Common.{◌≡◌, refl, ap, sym, ◌∙◌, ℕ, zero, suc, ◌+◌, ◌≤◌, Bool, true, false, cond, List, [], ◌∷◌, map, Some, None, slice_get, arith}
use Rattle.std.specs.List.{position_from}

pub record IsFirst {A : Type 0} (t : A → Bool) (xs : List A) (j : ℕ) : Type 0 where
  pub item : A
  pub stands : slice_get xs j ≡ Some item
  pub passes : t item ≡ true
  pub least : (m : ℕ) (y : A) → slice_get xs m ≡ Some y → t y ≡ true → j ≤ m

pub position_map : {A B : Type 0} (f : A → B) (t : B → Bool) (i : ℕ) (xs : List A) → position_from t i (map f xs) ≡ position_from (λ x. t (f x)) i xs
position_map f t i [] = refl
position_map f t i (x ∷ xs) = ap (λ r. cond (t (f x)) (Some i) r) (position_map f t (i + 1) xs)

next_first : {A : Type 0} (t : A → Bool) (x : A) (xs : List A) (j : ℕ) → t x ≡ false → IsFirst t xs j → IsFirst t (x ∷ xs) (suc j)
next_first t x xs j not_here r = record { item = r.item; stands = r.stands; passes = r.passes; least = least }
  where
    least : (m : ℕ) (y : _) → slice_get (x ∷ xs) m ≡ Some y → t y ≡ true → suc j ≤ m
    least zero y at ok = absurd (let same : x ≡ y = cc at in cc (sym not_here ∙ ap t same ∙ ok))
    least (suc m) y at ok = let low = r.least m y at ok in omega (arith, low)

pub found_at : {A : Type 0} (t : A → Bool) (i : ℕ) (xs : List A) (k : ℕ) → position_from t i xs ≡ Some k → (j : ℕ) × (k ≡ i + j) × IsFirst t xs j
found_at t i [] k is = absurd (cc is)
found_at t i (x ∷ xs) k is = by (t x) refl is (found_at t (i + 1) xs k)
  where
    by : (b : Bool) → t x ≡ b → cond b (Some i) (position_from t (i + 1) xs) ≡ Some k
        → (position_from t (i + 1) xs ≡ Some k → (j : ℕ) × (k ≡ i + 1 + j) × IsFirst t xs j) → (j : ℕ) × (k ≡ i + j) × IsFirst t (x ∷ xs) j
    by true e is again =
        let same : i ≡ k = cc is in
        (0, omega (arith, same), record { item = x; stands = refl; passes = e; least = λ m y at ok. omega arith })
    by false e is again = let r = again is in (suc r.0, omega (arith, r.1), next_first t x xs r.0 e r.2)

pub none_at : {A : Type 0} (t : A → Bool) (i : ℕ) (xs : List A) → position_from t i xs ≡ None → (m : ℕ) (y : A) → slice_get xs m ≡ Some y → t y ≡ true → ⊥
none_at t i [] is m y at ok = cc at
none_at t i (x ∷ xs) is m y at ok = by (t x) refl is m at (none_at t (i + 1) xs)
  where
    by : (b : Bool) → t x ≡ b → cond b (Some i) (position_from t (i + 1) xs) ≡ None → (m : ℕ) → slice_get (x ∷ xs) m ≡ Some y
        → (position_from t (i + 1) xs ≡ None → (m : ℕ) (y : _) → slice_get xs m ≡ Some y → t y ≡ true → ⊥) → ⊥
    by true e is m at again = cc is
    by false e is zero at again = let same : x ≡ y = cc at in cc (sym e ∙ ap t same ∙ ok)
    by false e is (suc m) at again = again is m y at ok
