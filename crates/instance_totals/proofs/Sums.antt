-- Sums over lists.
use Rattle.std.proofs.Common.{◌≡◌, refl, ap, ap₂, sym, ◌∙◌, subst, ℕ, ◌+◌, ◌<◌, ◌≤◌, ◌⊎◌, inl, inr, slice_index_or, min, List, [], ◌∷◌, ◌++◌, flat_map, length, take, get_or, arith}
use Rattle.std.proofs.lemmas.Bool.{cases_lt}
use Rattle.std.proofs.lemmas.List.{take_all, length-append, get_or_push, get_or_append_left}
use Rattle.std.specs.List.{sum_by}
use Rattle.std.proofs.lemmas.List.Sums.{sum_by-cons, sum_by-append, sum_by_more}

pub sum_of_parts : {A B : Type 0} (f : B → ℕ) (g : A → List B) (xs : List A) → sum_by f (flat_map g xs) ≡ sum_by (λ x. sum_by f (g x)) xs
sum_of_parts f g [] = refl
sum_of_parts f g (x ∷ xs) =
    sum_by-append f (g x) (flat_map g xs) ∙ ap (λ n. sum_by f (g x) + n) (sum_of_parts f g xs) ∙ sym (sum_by-cons (λ y. sum_by f (g y)) x xs)

pub same_sum : {A : Type 0} (f g : A → ℕ) → ((x : A) → f x ≡ g x) → (xs : List A) → sum_by f xs ≡ sum_by g xs
same_sum f g same [] = refl
same_sum f g same (x ∷ xs) = sum_by-cons f x xs ∙ ap₂ (λ a b. a + b) (same x) (same_sum f g same xs) ∙ sym (sum_by-cons g x xs)

one_capped : (most a b c d e f : ℕ) → e ≡ a + c → f ≡ b + d → min a most ≡ min b most → min c most ≡ min d most → min e most ≡ min f most
one_capped most a b c d e f left right here rest = omega (arith, left, right, here, rest)

-- sums up to a most are the same where the terms are
pub capped_sum : {A : Type 0} (most : ℕ) (f g : A → ℕ) → ((x : A) → min (f x) most ≡ min (g x) most) → (xs : List A)
    → min (sum_by f xs) most ≡ min (sum_by g xs) most
capped_sum most f g same [] = refl
capped_sum most f g same (x ∷ xs) =
    one_capped most (f x) (g x) (sum_by f xs) (sum_by g xs) (sum_by f (x ∷ xs)) (sum_by g (x ∷ xs)) (sum_by-cons f x xs) (sum_by-cons g x xs) (same x)
    (capped_sum most f g same xs)

-- one more term of a sum up to a most
pub one_added : {A : Type 0} (f : A → ℕ) (xs : List A) (i : ℕ) (x : A) → i < length xs → x ≡ get_or xs i x → (most own old new : ℕ)
    → old ≡ min (sum_by f (take i xs) + own) most → new ≡ min (old + f x) most → new ≡ min (sum_by f (take (i + 1) xs) + own) most
one_added f xs i x within is most own old new before added =
    let more = sum_by_more f xs i x within in
    let here : f (get_or xs i x) ≡ f x = ap f (sym is) in
    omega (arith, more, here, before, added)

pub all_added : {A : Type 0} (f : A → ℕ) (xs ys : List A) (i : ℕ) → length xs ≤ i → xs ≡ ys → (most own total : ℕ)
    → total ≡ min (sum_by f (take i xs) + own) most → total ≡ min (sum_by f ys + own) most
all_added f xs ys i past these most own total before =
    before ∙ ap (λ l. min (sum_by f l + own) most) (take_all i xs past ∙ these)

-- one more value of a list that has the values of the first numbers
module _ {A : Type 0} (d : A) (value : ℕ → A) (xs ys : List A) (x : A) (n : ℕ) (added : ys ≡ xs ++ x ∷ []) (size : length xs ≡ n) where
  pub size_pushed : length ys ≡ n + 1
  size_pushed = ap length added ∙ length-append xs (x ∷ []) ∙ omega (arith, size)

  pub one_pushed : ((k : ℕ) → k < n → slice_index_or xs k d ≡ value k) → x ≡ value n → (k : ℕ) → k < n + 1 → slice_index_or ys k d ≡ value k
  one_pushed each here k lt = ap (λ l. slice_index_or l k d) added ∙ by (cases_lt k n)
    where
      by : (k < n) ⊎ (n ≤ k) → slice_index_or (xs ++ x ∷ []) k d ≡ value k
      by (inl within) = get_or_append_left xs (x ∷ []) d k (omega (arith, size, within)) ∙ each k within
      by (inr past) =
          let same : n ≡ k = omega (arith, lt, past) in
          subst (λ m. slice_index_or (xs ++ x ∷ []) m d ≡ value m) same (get_or_push xs x d n size ∙ here)
