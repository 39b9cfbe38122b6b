-- Base partitions of clocked classes, class by class.
use Rattle.std.proofs.Common.{◌≡◌, ◌∙◌, refl, sym, ap, subst, ℕ, zero, suc, ◌+◌, ◌<◌, ◌⊎◌, ⊎_elim, Bool, true, false, List, [], ◌∷◌, ◌++◌, length, take, slice_get, slice_index_or, Some, arith}
use Rattle.std.specs.List.{count_by}
use Rattle.std.proofs.lemmas.List.{length-append}
use Rattle.std.proofs.lemmas.List.Sums.{count_by_more_yes, count_by_more_no}

-- the entries of the first classes
abbrev pub ArePlaced : List Bool → List ℕ → List ℕ → ℕ → Type 0
ArePlaced clocked partition list n = (length list ≡ count_by (λ b. b) (take n clocked))
    × ((c : ℕ) → c < n → slice_index_or clocked c false ≡ true → slice_get list (count_by (λ b. b) (take c clocked)) ≡ Some (slice_index_or partition c 0))

less_or : (c i : ℕ) → c < i + 1 → (c < i) ⊎ (c ≡ i)
less_or c i lt = grind arith

get_left : (xs ys : List ℕ) (k a : ℕ) → slice_get xs k ≡ Some a → slice_get (xs ++ ys) k ≡ Some a
get_left [] ys k a e = absurd cc
get_left (x ∷ xs) ys zero a e = e
get_left (x ∷ xs) ys (suc k) a e = get_left xs ys k a e

get_end : (xs : List ℕ) (a : ℕ) → slice_get (xs ++ a ∷ []) (length xs) ≡ Some a
get_end [] a = refl
get_end (x ∷ xs) a = get_end xs a

pub partition_more : (clocked : List Bool) (partition list new : List ℕ) (i : ℕ) → i < length clocked → slice_index_or clocked i false ≡ true → new ≡ list ++ slice_index_or partition i 0 ∷ []
    → ArePlaced clocked partition list i → ArePlaced clocked partition new (i + 1)
partition_more clocked partition list new i within is added h = (
  (let e = ap length added in let f : length (list ++ slice_index_or partition i 0 ∷ []) ≡ length list + 1 = length-append list (slice_index_or partition i 0 ∷ []) in
      let g = count_by_more_yes (λ b. b) clocked i false within is in let k = h.0 in e ∙ f ∙ ap (λ n. n + 1) k ∙ sym g),
  λ c lt t. ⊎_elim
      (λ less. ap (λ l. slice_get l (count_by (λ b. b) (take c clocked))) added ∙ get_left list (slice_index_or partition i 0 ∷ []) (count_by (λ b. b) (take c clocked)) (slice_index_or partition c 0) (h.1 c less t))
      (λ e. ap (λ l. slice_get l (count_by (λ b. b) (take c clocked))) added
      ∙ ap (λ n. slice_get (list ++ slice_index_or partition i 0 ∷ []) n) (ap (λ n. count_by (λ b. b) (take n clocked)) e ∙ sym h.0) ∙ get_end list (slice_index_or partition i 0)
      ∙ ap (λ n. Some (slice_index_or partition n 0)) (sym e))
      (less_or c i lt),
)

pub partition_same : (clocked : List Bool) (partition list new : List ℕ) (i : ℕ) → i < length clocked → slice_index_or clocked i false ≡ false → new ≡ list
    → ArePlaced clocked partition list i → ArePlaced clocked partition new (i + 1)
partition_same clocked partition list new i within isnt same h = (
  ap length same ∙ h.0 ∙ sym (count_by_more_no (λ b. b) clocked i false within isnt),
  λ c lt t. ⊎_elim
      (λ less. ap (λ l. slice_get l (count_by (λ b. b) (take c clocked))) same ∙ h.1 c less t)
      (λ e. absurd (clash (sym (subst (λ n. slice_index_or clocked n false ≡ true) e t) ∙ isnt)))
      (less_or c i lt),
)
  where
    clash : true ≡ false → ⊥
    clash e = absurd cc
