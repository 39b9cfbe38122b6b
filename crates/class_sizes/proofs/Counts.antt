-- Counts up to a most, term by term.
use Rattle.std.proofs.Common.{◌≡◌, ap, sym, ◌∙◌, ℕ, ◌+◌, ◌<◌, ◌≤◌, min, List, length, take, get_or, arith}
use Rattle.std.specs.List.{sum_by}
use Rattle.std.proofs.lemmas.List.{take_all}
use Rattle.std.proofs.lemmas.List.Sums.{sum_by_more}

module _ {A : Type 0} (f : A → ℕ) (xs : List A) (i : ℕ) (x : A) (within : i < length xs) (is : x ≡ get_or xs i x) (most old part new : ℕ)
    (before : old ≡ min (sum_by f (take i xs)) most) where
  -- one more term, as it is or up to the most
  pub one_added : part ≡ f x → new ≡ min (old + part) most → new ≡ min (sum_by f (take (i + 1) xs)) most
  one_added these added =
      let more = sum_by_more f xs i x within in
      let here : f (get_or xs i x) ≡ f x = ap f (sym is) in
      omega (arith, more, here, before, these, added)

  pub one_capped : part ≡ min (f x) most → new ≡ min (old + part) most → new ≡ min (sum_by f (take (i + 1) xs)) most
  one_capped these added =
      let more = sum_by_more f xs i x within in
      let here : f (get_or xs i x) ≡ f x = ap f (sym is) in
      omega (arith, more, here, before, these, added)

pub all_added : {A : Type 0} (f : A → ℕ) (xs : List A) (i : ℕ) → length xs ≤ i → (most total : ℕ) → total ≡ min (sum_by f (take i xs)) most
    → total ≡ min (sum_by f xs) most
all_added f xs i past most total before = before ∙ ap (λ l. min (sum_by f l) most) (take_all i xs past)
