-- One number more.
use Rattle.std.proofs.Common.{Result, Ok, Err, OnOk, ◌≡◌, refl, ap, subst, sym, ◌∙◌, ℕ, zero, suc, ◌+◌, ◌<◌, inl, inr, ⊎_elim, Bool, true, false, List, [], ◌∷◌, ◌++◌, length, get_or, slice_index_or, slice_get, Some, arith}
use Rattle.std.proofs.lemmas.List.{length-append, get_or_push, get_or_default}
use Rattle.std.proofs.lemmas.List.Elements.{Contains-push_cases}
use Rattle.std.proofs.lemmas.Bool.{cases_eq}
use Rattle.base_partition.specs.private.Numbered.{is_member, first_of, HasFirsts, AreNumbers}

get_pushed : {X : Type 0} (xs : List X) (y d : X) (i : ℕ) → i < length xs → get_or (xs ++ y ∷ []) i d ≡ get_or xs i d
get_pushed [] y d i lt = absurd (omega (arith, lt))
get_pushed (x ∷ xs) y d zero lt = refl
get_pushed (x ∷ xs) y d (suc i) lt = get_pushed xs y d i (omega (arith, lt))

found_pushed : {X : Type 0} (xs : List X) (y x : X) (i : ℕ) → slice_get xs i ≡ Some x → slice_get (xs ++ y ∷ []) i ≡ Some x
found_pushed [] y x i is = absurd (cc is)
found_pushed (z ∷ xs) y x zero is = is
found_pushed (z ∷ xs) y x (suc i) is = found_pushed xs y x i is

found_last : {X : Type 0} (xs : List X) (y : X) → slice_get (xs ++ y ∷ []) (length xs) ≡ Some y
found_last [] y = refl
found_last (x ∷ xs) y = found_last xs y

module _ (first : List ℕ) (members : List Bool) (i : ℕ) (firsts places : List ℕ) (h : AreNumbers first members i firsts places) where
  old_place : (p a : ℕ) → a < i → slice_index_or (places ++ p ∷ []) a 0 ≡ slice_index_or places a 0
  old_place p a lt = get_pushed places p 0 a (let e = h.count in omega (arith, lt, e))

  new_place : (p : ℕ) → slice_index_or (places ++ p ∷ []) i 0 ≡ p
  new_place p = get_or_push places p 0 i h.count

  -- a number whose first has its place, or that is no member
  pub kept : (p : ℕ) → (is_member members i ≡ true → slice_get firsts p ≡ Some (first_of first i)) → (is_member members i ≡ false → p ≡ 0) → AreNumbers first members (i + 1) firsts (places ++ p ∷ [])
  kept p is other_is = record {
    count = let e = h.count in omega (arith, e, length-append places (p ∷ []));
    found = λ a lt m. elim (cases_eq a i) [
      | inl same ↦ subst (λ z. slice_get firsts (slice_index_or (places ++ p ∷ []) z 0) ≡ Some (first_of first z)) (sym same) (subst (λ q. slice_get firsts q ≡ Some (first_of first i)) (sym (new_place p)) (is (subst (λ z. is_member members z ≡ true) same m)))
      | inr other ↦ let below : a < i = omega (arith, lt, other) in subst (λ q. slice_get firsts q ≡ Some (first_of first a)) (sym (old_place p a below)) (h.found a below m)
    ];
    others = λ a lt m. elim (cases_eq a i) [
      | inl same ↦ subst (λ z. slice_index_or (places ++ p ∷ []) z 0 ≡ 0) (sym same) (new_place p ∙ other_is (subst (λ z. is_member members z ≡ false) same m))
      | inr other ↦ let below : a < i = omega (arith, lt, other) in old_place p a below ∙ h.others a below m
    ];
    own = λ f c. let r = h.own f c in let b = r.0 in (omega (arith, b), r.1, r.2);
    rising = h.rising;
  }

-- a number that is its own first
pub begun : (first : List ℕ) (members : List Bool) (i : ℕ) (firsts places : List ℕ) → AreNumbers first members i firsts places → is_member members i ≡ true → first_of first i ≡ i
    → AreNumbers first members (i + 1) (firsts ++ i ∷ []) (places ++ length firsts ∷ [])
begun first members i firsts places h m own =
    let place : slice_index_or (places ++ length firsts ∷ []) i 0 ≡ length firsts = get_or_push places (length firsts) 0 i h.count in
    record {
      count = let e = h.count in omega (arith, e, length-append places (length firsts ∷ []));
      found = λ a lt is. elim (cases_eq a i) [
        | inl same ↦ subst (λ z. slice_get (firsts ++ i ∷ []) (slice_index_or (places ++ length firsts ∷ []) z 0) ≡ Some (first_of first z)) (sym same)
            (subst (λ q. slice_get (firsts ++ i ∷ []) q ≡ Some (first_of first i)) (sym place) (found_last firsts i ∙ ap Some (sym own)))
        | inr other ↦
            let below : a < i = omega (arith, lt, other) in
            subst (λ q. slice_get (firsts ++ i ∷ []) q ≡ Some (first_of first a)) (sym (old_place first members i firsts places h (length firsts) a below)) (found_pushed firsts i _ _ (h.found a below is))
      ];
      others = λ a lt not_one. elim (cases_eq a i) [
        | inl same ↦ absurd (let e : true ≡ false = sym m ∙ subst (λ z. is_member members z ≡ false) same not_one in cc e)
        | inr other ↦ let below : a < i = omega (arith, lt, other) in old_place first members i firsts places h (length firsts) a below ∙ h.others a below not_one
      ];
      own = λ f c. ⊎_elim
          (λ old. let r = h.own f old in let b = r.0 in (omega (arith, b), r.1, r.2))
          (λ e. subst (λ z. (z < i + 1) × (is_member members z ≡ true) × (first_of first z ≡ z)) e (omega arith, m, own))
          (Contains-push_cases firsts i f c);
      rising = λ k l lt within. elim (cases_eq l (length firsts)) [
        | inl last ↦
            let below : k < length firsts = omega (arith, lt, last) in
            let end : slice_index_or (firsts ++ i ∷ []) l 0 ≡ i = get_or_push firsts i 0 l (sym last) in
            let start : slice_index_or (firsts ++ i ∷ []) k 0 ≡ slice_index_or firsts k 0 = get_pushed firsts i 0 k below in
            let r = (h.own (slice_index_or firsts k 0) (k, below, get_same firsts k below)).0 in
            omega (arith, end, start, r)
        | inr other ↦
            let size = length-append firsts (i ∷ []) in
            let below : l < length firsts = omega (arith, within, size, other) in
            let end : slice_index_or (firsts ++ i ∷ []) l 0 ≡ slice_index_or firsts l 0 = get_pushed firsts i 0 l below in
            let start : slice_index_or (firsts ++ i ∷ []) k 0 ≡ slice_index_or firsts k 0 = get_pushed firsts i 0 k (omega (arith, lt, below)) in
            let r = h.rising k l lt below in
            omega (arith, end, start, r)
      ];
    }
  where
    get_same : (xs : List ℕ) (k : ℕ) → k < length xs → slice_index_or xs k (slice_index_or xs k 0) ≡ slice_index_or xs k 0
    get_same xs k lt = get_or_default xs k (slice_index_or xs k 0) 0 lt

pub on_ok : {A B : Type 0} (P Q : Type 0) (r : Result A B) → (P → Q) → OnOk r P → OnOk r Q
on_ok P Q (Ok a) f h = f h
on_ok P Q (Err e) f h = h

-- a member has the place of its first
pub found_first : (first : List ℕ) (members : List Bool) (i : ℕ) (firsts places : List ℕ) → AreNumbers first members i firsts places → HasFirsts first members → is_member members i ≡ true → (first_of first i ≡ i → ⊥)
    → slice_get firsts (slice_index_or places (first_of first i) 0) ≡ Some (first_of first i)
found_first first members i firsts places h f m ne =
    let b = f.below i in
    h.found (first_of first i) (omega (arith, b, ne)) (f.member i m) ∙ ap Some (f.own i m)
