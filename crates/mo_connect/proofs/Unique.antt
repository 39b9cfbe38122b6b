-- One list of classes at most fits the pairs.
use Rattle.std.proofs.Common.{◌≡◌, ◌≢◌, ℕ, zero, suc, ◌<◌, ◌≤◌, List, [], ◌∷◌, ◌⊎◌, inl, inr, length, get_or, refl, sym, ap, ap₂, subst, ◌∙◌, arith}
use Rattle.std.proofs.lemmas.Bool.{cases_eq, cases_order}
use Rattle.std.proofs.lemmas.List.{get_or_default}
use Rattle.std.proofs.lemmas.List.Elements.{All-contains, Contains-get_or}
use Rattle.std.proofs.lemmas.List.Kept.{AllPairs-from_increasing}
use Rattle.std.specs.List.{AllPairs, Contains}
use Rattle.std.specs.List.Sorted.{IsStrictlyIncreasing}
use Rattle.mo_connect.specs.declared.Pair.{Pair}
use Rattle.mo_connect.specs.Chain.{AreJoined}
use Rattle.mo_connect.specs.Classes.{AreClasses}

contains_head : {X : Type 0} (x : X) (xs : List X) → Contains (x ∷ xs) x
contains_head x xs = (zero, omega arith, refl)

contains_tail : {X : Type 0} (x : X) (xs : List X) (y : X) → Contains xs y → Contains (x ∷ xs) y
contains_tail x xs y (k, within, is) = (suc k, omega (arith, within), is)

contains_none : {X : Type 0} (x : X) → Contains [] x → ⊥
contains_none x (k, within, is) = omega (arith, within)

contains_cases : {X : Type 0} (x : X) (xs : List X) (y : X) → Contains (x ∷ xs) y → (x ≡ y) ⊎ Contains xs y
contains_cases x xs y (zero, within, is) = inl is
contains_cases x xs y (suc k, within, is) = inr (k, omega (arith, within), is)

module _ {X : Type 0} (key : X → ℕ) where
  rises_head : (x : X) (xs : List X) → AllPairs (λ x y. key x < key y) (x ∷ xs) → (y : X) → Contains xs y → key x < key y
  rises_head x xs rises y (k, within, is) =
      subst (λ z. key x < key z) is (rises 0 (suc k) y (omega arith) (omega (arith, within)))

  rises_tail : (x : X) (xs : List X) → AllPairs (λ x y. key x < key y) (x ∷ xs) → AllPairs (λ x y. key x < key y) xs
  rises_tail x xs rises i j d below within = rises (suc i) (suc j) d (omega (arith, below)) (omega (arith, within))

  heads_same : (x : X) (xs : List X) (y : X) (ys : List X) → AllPairs (λ x y. key x < key y) (x ∷ xs)
      → AllPairs (λ x y. key x < key y) (y ∷ ys) → Contains (y ∷ ys) x → Contains (x ∷ xs) y → x ≡ y
  heads_same x xs y ys rises rises' there back = elim (contains_cases y ys x there) [
    | inl same ↦ sym same
    | inr later ↦ elim (contains_cases x xs y back) [
      | inl same ↦ same
      | inr later' ↦ absurd (let up = rises_head x xs rises y later' in let down = rises_head y ys rises' x later in omega (arith, up, down))
    ]
  ]

  tails_have : (x : X) (xs : List X) (y : X) (ys : List X) → x ≡ y → AllPairs (λ x y. key x < key y) (x ∷ xs)
      → ((z : X) → Contains (x ∷ xs) z → Contains (y ∷ ys) z) → (z : X) → Contains xs z → Contains ys z
  tails_have x xs y ys same rises there z later = elim (contains_cases y ys z (there z (contains_tail x xs z later))) [
    | inl first ↦ absurd (let up = rises_head x xs rises z later in let level = ap key (same ∙ first) in omega (arith, up, level))
    | inr rest ↦ rest
  ]

  -- two lists that rise and have the same elements are equal
  pub same_from_elements : (xs ys : List X) → AllPairs (λ x y. key x < key y) xs → AllPairs (λ x y. key x < key y) ys
      → ((z : X) → Contains xs z → Contains ys z) → ((z : X) → Contains ys z → Contains xs z) → xs ≡ ys
  same_from_elements [] [] rises rises' there back = refl
  same_from_elements [] (y ∷ ys) rises rises' there back = absurd (contains_none y (back y (contains_head y ys)))
  same_from_elements (x ∷ xs) [] rises rises' there back = absurd (contains_none x (there x (contains_head x xs)))
  same_from_elements (x ∷ xs) (y ∷ ys) rises rises' there back =
      let same : x ≡ y = heads_same x xs y ys rises rises' (there x (contains_head x xs)) (back y (contains_head y ys)) in
      ap₂ (λ head tail. head ∷ tail) same (same_from_elements xs ys (rises_tail x xs rises) (rises_tail y ys rises')
      (tails_have x xs y ys same rises there) (tails_have y ys x xs (sym same) rises' back))

module _ (count : ℕ) (pairs : List Pair) where
  abbrev AllJoined : List ℕ → Type 0
  AllJoined class = (x y : ℕ) → Contains class x → Contains class y → AreJoined pairs x y

  -- two classes that share a member are one
  one_class : (classes : List (List ℕ)) → AreClasses count pairs classes → (class other : List ℕ) (x : ℕ)
      → Contains classes class → Contains classes other → Contains class x → Contains other x → class ≡ other
  one_class classes are class other x (i, within, is) (j, within', is') inside inside' =
      let here : get_or classes j class ≡ other = get_or_default classes j class other within' ∙ is' in
      elim (cases_order i j) [
        | inl same ↦ sym is ∙ ap (λ k. get_or classes k class) same ∙ here
        | inr apart ↦ absurd (elim apart [
          | inl below ↦ are.apart i j class below within' x (subst (λ c. Contains c x) (sym is) inside) (subst (λ c. Contains c x) (sym here) inside')
          | inr above ↦ are.apart j i class above within x (subst (λ c. Contains c x) (sym here) inside') (subst (λ c. Contains c x) (sym is) inside)
        ])
      ]

  -- the members of a class are in one class of the other list
  members_within : (classes others : List (List ℕ)) → AreClasses count pairs classes → AreClasses count pairs others
      → (class other : List ℕ) (x : ℕ) → Contains classes class → Contains others other
      → Contains class x → Contains other x → (z : ℕ) → Contains class z → Contains other z
  members_within classes others are are' class other x at at' inside inside' z member = elim (cases_eq x z) [
    | inl same ↦ subst (Contains other) same inside'
    | inr apart ↦
        let (k, found, within, is, both) = are'.together x z apart (All-contains AllJoined classes class are.joined at x z inside member) in
        subst (λ c. Contains c z) (one_class others are' found other x (k, within, is) at' both.0 inside') both.1
  ]

  -- a class of the one list is a class of the other
  class_within : (classes others : List (List ℕ)) → AreClasses count pairs classes → AreClasses count pairs others
      → (class : List ℕ) → Contains classes class → Contains others class
  class_within classes others are are' class at =
      let several = All-contains (λ c. 2 ≤ length c) classes class are.several at in
      let rising = All-contains IsStrictlyIncreasing classes class are.rising at in
      let first = Contains-get_or class 0 0 (omega (arith, several)) in
      let second = Contains-get_or class 1 0 (omega (arith, several)) in
      let up : get_or class 0 0 < get_or class 1 0 = rising 0 (omega (arith, several)) in
      let other : get_or class 0 0 ≢ get_or class 1 0 = omega arith in
      let (k, found, within, is, both) = are'.together (get_or class 0 0) (get_or class 1 0) other
      (All-contains AllJoined classes class are.joined at (get_or class 0 0) (get_or class 1 0) first second) in
      let rising' = All-contains IsStrictlyIncreasing others found are'.rising (k, within, is) in
      let same : found ≡ class = same_from_elements (λ x. x) found class (AllPairs-from_increasing found rising') (AllPairs-from_increasing class rising)
      (members_within others classes are' are found class (get_or class 0 0) (k, within, is) at both.0 first)
      (members_within classes others are are' class found (get_or class 0 0) at (k, within, is) first both.0) in
      subst (Contains others) same (k, within, is)

  -- two lists of classes are equal
  pub only_classes : (classes others : List (List ℕ)) → AreClasses count pairs classes → AreClasses count pairs others
      → others ≡ classes
  only_classes classes others are are' = same_from_elements (λ class. get_or class 0 0) others classes are'.ordered are.ordered
      (class_within others classes are' are) (class_within classes others are are')
