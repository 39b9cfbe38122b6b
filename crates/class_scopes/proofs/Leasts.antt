-- The least of places.
use Rattle.std.proofs.Common.{◌≡◌, refl, ap, ap₂, sym, ◌∙◌, subst, ℕ, zero, suc, ◌+◌, ◌<◌, ◌≤◌, ◌⊎◌, inl, inr, min, Bool, true, false, List, [], ◌∷◌, ◌++◌, flat_map, length, take, get_or, Option, Some, None, Contains, arith, nat_lt, option_copied, append-nil}
use Rattle.std.specs.Borrow.{Bor}
use Rattle.std.proofs.lemmas.List.{take_more}
use Rattle.std.proofs.lemmas.List.Elements.{Contains-append_left, Contains-append_right, Contains-append_cases}
use Rattle.std.proofs.lemmas.Grind.{flat_map-append}
use Rattle.std.proofs.lemmas.Bool.Decides.{nat_tests}
use Rattle.class_scopes.specs.Places.{lesser, least}
use Rattle.class_scopes.proofs.Numbers.{lesser_assoc}

-- one more part of a list
pub one_more : {A B : Type 0} (f : A → List B) (xs : List A) (i : ℕ) (x : A) → i < length xs → x ≡ get_or xs i x → flat_map f (take (i + 1) xs) ≡ flat_map f (take i xs) ++ f x
one_more f xs i x within is =
    ap (flat_map f) (take_more xs i x within) ∙ flat_map-append f (take i xs) (get_or xs i x ∷ []) ∙ ap (λ y. flat_map f (take i xs) ++ flat_map f (y ∷ [])) (sym is)
    ∙ ap (λ t. flat_map f (take i xs) ++ t) (append-nil (f x))

lesser_none : (a : Option ℕ) → lesser a None ≡ a
lesser_none None = refl
lesser_none (Some a) = refl

pub least-append : (xs ys : List ℕ) → least (xs ++ ys) ≡ lesser (least xs) (least ys)
least-append [] ys = refl
least-append (x ∷ xs) ys = ap (lesser (Some x)) (least-append xs ys) ∙ sym (lesser_assoc (Some x) (least xs) (least ys))

-- the places of one more part
pub least_with : {A : Type 0} (f : A → List ℕ) (xs : List A) (i : ℕ) (x : A) → i < length xs → x ≡ get_or xs i x → (r next here : Option ℕ)
    → r ≡ least (flat_map f (take i xs)) → next ≡ lesser r here → here ≡ least (f x) → next ≡ least (flat_map f (take (i + 1) xs))
least_with f xs i x within is r next here before step place =
    step ∙ ap₂ lesser before place ∙ sym (ap least (one_more f xs i x within is) ∙ least-append (flat_map f (take i xs)) (f x))

pub least_both : (r next here : Option ℕ) (xs ys : List ℕ) → r ≡ least xs → next ≡ lesser r here → here ≡ least ys → next ≡ least (xs ++ ys)
least_both r next here xs ys before step place = step ∙ ap₂ lesser before place ∙ sym (least-append xs ys)

min_is : (a b : ℕ) → (min a b ≡ a) ⊎ (min a b ≡ b)
min_is a b = by (nat_lt a b) refl
  where
    by : (t : Bool) → nat_lt a b ≡ t → (min a b ≡ a) ⊎ (min a b ≡ b)
    by true e = let less : a < b = grind (arith, nat_tests, e) in inl (omega (arith, less))
    by false e = let more : b ≤ a = grind (arith, nat_tests, e) in inr (omega (arith, more))

-- a least place is one of the places, and none is less
pub record IsLeast (xs : List ℕ) (p : ℕ) : Type 0 where
  pub is : Contains xs p
  pub least : (q : ℕ) → Contains xs q → p ≤ q

head_or_tail : (x : ℕ) (xs : List ℕ) (q : ℕ) → Contains (x ∷ xs) q → (x ≡ q) ⊎ Contains xs q
head_or_tail x xs q (zero, within, same) = inl same
head_or_tail x xs q (suc k, within, same) = inr (k, omega (arith, within), same)

in_tail : (x : ℕ) (xs : List ℕ) (q : ℕ) → Contains xs q → Contains (x ∷ xs) q
in_tail x xs q at = (suc at.0, omega (arith, at.1), at.2)

one_first : (x : ℕ) (xs : List ℕ) (r : Option ℕ) → least xs ≡ r → ((p : ℕ) → r ≡ Some p → IsLeast xs p) → (r ≡ None → (q : ℕ) → Contains xs q → ⊥)
    → (p : ℕ) → lesser (Some x) r ≡ Some p → IsLeast (x ∷ xs) p
one_first x xs None is some none p here =
    let same : x ≡ p = cc here in
    record { is = (0, omega arith, same); least = λ q at. by q (head_or_tail x xs q at) }
  where
    by : (q : ℕ) → (x ≡ q) ⊎ Contains xs q → p ≤ q
    by q (inl this) = let same : x ≡ p = cc here in omega (arith, this, same)
    by q (inr other) = absurd (none refl q other)
one_first x xs (Some r) is some none p here =
    let same : min x r ≡ p = cc here in
    record { is = place (min_is x r); least = λ q at. by q (head_or_tail x xs q at) }
  where
    place : (min x r ≡ x) ⊎ (min x r ≡ r) → Contains (x ∷ xs) p
    place (inl this) = let same : min x r ≡ p = cc here in (0, omega arith, sym this ∙ same)
    place (inr other) = let same : min x r ≡ p = cc here in in_tail x xs p (some p (ap Some (sym other ∙ same))).is

    by : (q : ℕ) → (x ≡ q) ⊎ Contains xs q → p ≤ q
    by q (inl this) = let same : min x r ≡ p = cc here in omega (arith, this, same)
    by q (inr other) = let same : min x r ≡ p = cc here in let low = (some r refl).least q other in omega (arith, same, low)

lesser_some : (x : ℕ) (r : Option ℕ) → lesser (Some x) r ≡ None → ⊥
lesser_some x None is = cc is
lesser_some x (Some r) is = cc is

mutual
  pub least_is : (xs : List ℕ) (p : ℕ) → least xs ≡ Some p → IsLeast xs p
  least_is [] p is = absurd (cc is)
  least_is (x ∷ xs) p is = one_first x xs (least xs) refl (least_is xs) (least_none xs) p is

  pub least_none : (xs : List ℕ) → least xs ≡ None → (q : ℕ) → Contains xs q → ⊥
  least_none [] none q at = absurd (omega (arith, at.1))
  least_none (x ∷ xs) none q at = lesser_some x (least xs) none

-- the places of all parts
pub into_all : {A : Type 0} (f : A → List ℕ) (xs : List A) (x : A) (p : ℕ) → Contains xs x → Contains (f x) p → Contains (flat_map f xs) p
into_all f [] x p at place = absurd (omega (arith, at.1))
into_all f (y ∷ xs) x p (zero, within, same) place = Contains-append_left (f y) (flat_map f xs) p (subst (λ z. Contains (f z) p) (sym same) place)
into_all f (y ∷ xs) x p (suc k, within, same) place = Contains-append_right (f y) (flat_map f xs) p (into_all f xs x p (k, omega (arith, within), same) place)

pub out_of_all : {A : Type 0} (f : A → List ℕ) (xs : List A) (p : ℕ) → Contains (flat_map f xs) p → (x : A) × Contains xs x × Contains (f x) p
out_of_all f [] p at = absurd (omega (arith, at.1))
out_of_all {A} f (y ∷ xs) p at = by (Contains-append_cases (f y) (flat_map f xs) p at) (out_of_all f xs p)
  where
    by : Contains (f y) p ⊎ Contains (flat_map f xs) p → (Contains (flat_map f xs) p → (x : A) × Contains xs x × Contains (f x) p) → (x : A) × Contains (y ∷ xs) x × Contains (f x) p
    by (inl here) again = (y, (0, omega arith, refl), here)
    by (inr there) again = let r = again there in (r.0, (suc r.1.0, omega (arith, r.1.1), r.1.2), r.2)

pub short_named : {A : Type 0} (x : Option (Bor A)) (a : Bor A) (y : Option A) → x ≡ Some a → option_copied x ≡ y → y ≡ Some a.now
short_named x a y is same = sym same ∙ ap option_copied is
