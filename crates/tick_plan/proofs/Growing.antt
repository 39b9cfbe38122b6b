-- Lists that grow by one element at the end, and lists without repeats.
use Rattle.std.proofs.Common.{◌≡◌, refl, sym, subst, ℕ, zero, suc, ◌+◌, ◌<◌, ◌⊎◌, List, [], ◌∷◌, ◌++◌, length, get_or, slice_get, Some, Contains, arith}
use Rattle.std.proofs.lemmas.List.{get_or_append_left, length-append}
use Rattle.std.proofs.lemmas.Option.{slice_get_read, slice_get_within, get_or_from_slice_get, same_Some, none-some}
use Rattle.std.proofs.Math.Seq.{get_or-append_seam}

pub last_or_before : (i j : ℕ) → i < j + 1 → (i ≡ j) ⊎ (i < j)
last_or_before i j lt = grind arith

pub grown : {A : Type 0} (xs : List A) (x : A) → length (xs ++ x ∷ []) ≡ length xs + 1
grown xs x = length-append xs (x ∷ [])

pub before_end : (xs : List ℕ) (x i : ℕ) → i < length xs → get_or (xs ++ x ∷ []) i 0 ≡ get_or xs i 0
before_end xs x i lt = get_or_append_left xs (x ∷ []) 0 i lt

pub at_end : (xs : List ℕ) (x i : ℕ) → length xs ≡ i → get_or (xs ++ x ∷ []) i 0 ≡ x
at_end xs x i at = subst (λ j. get_or (xs ++ x ∷ []) j 0 ≡ x) at (get_or-append_seam xs x [] 0)

-- an element by its place
pub placed : {A : Type 0} (xs : List A) (k : ℕ) (x : A) → k < length xs → get_or xs k x ≡ x → slice_get xs k ≡ Some x
placed xs k x lt is = slice_get_read xs (length xs) k x refl lt (sym is)

pub has : {A : Type 0} (xs : List A) (k : ℕ) (x : A) → slice_get xs k ≡ Some x → Contains xs x
has xs k x is = (k, slice_get_within xs k x is, get_or_from_slice_get xs k x x is)

pub only_one : {A : Type 0} (x y : A) → Contains (x ∷ []) y → x ≡ y
only_one x y h = first h.0 (placed (x ∷ []) h.0 y h.1 h.2)
  where
    first : (k : ℕ) → slice_get (x ∷ []) k ≡ Some y → x ≡ y
    first zero is = same_Some x y is
    first (suc k) is = absurd (none-some y is)
