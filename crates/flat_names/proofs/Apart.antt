-- Names of which no two have one text.
use Rattle.std.proofs.Common.{◌≡◌, ◌≢◌, ◌↔◌, refl, ap, sym, ◌∙◌, subst, ℕ, zero, suc, ◌+◌, ◌<◌, ◌≤◌, ◌||◌, ◌&&◌, not, Bool, true, false, IsTrue, List, [], ◌∷◌, ◌++◌, map, take, length, get_or, bytes_eq, All, AllPairs, arith}
use Rattle.std.proofs.lemmas.List.{take_more, take_all, length-take-le, get_or-take}
use Rattle.std.proofs.lemmas.List.Elements.{All-append}
use Rattle.std.proofs.lemmas.List.Kept.{AllPairs-cons}
use Rattle.std.proofs.lemmas.Slice.Eq.{bytes_eq-Decides}
use Rattle.flat_model.specs.declared.model.FlatName.{FlatName}
use Rattle.class_scopes.specs.Places.{is_among}
use Rattle.class_scopes.specs.Spelled.{Ident}
use Rattle.class_scopes.specs.Tables.{Numbered, Declares, IsTableOf}
use Rattle.class_scopes.proofs.Numbers.{old_name, new_name}

abbrev pub Differ : FlatName → FlatName → Type 0
Differ a b = a.text ≢ b.text

one_each : {X : Type 0} (P : X → Type 0) (x : X) → P x → All P (x ∷ [])
one_each P x is zero d below = is
one_each P x is (suc k) d below = absurd (omega (arith, below))

rest_all : {X : Type 0} (P : X → Type 0) (x : X) (xs : List X) → All P (x ∷ xs) → All P xs
rest_all P x xs all k d below = all (suc k) d (omega (arith, below))

rest_pairs : {X : Type 0} (R : X → X → Type 0) (x : X) (xs : List X) → AllPairs R (x ∷ xs) → AllPairs R xs
rest_pairs R x xs all i j d less below = all (suc i) (suc j) d (omega (arith, less)) (omega (arith, below))

first_pairs : {X : Type 0} (R : X → X → Type 0) (x : X) (xs : List X) → AllPairs R (x ∷ xs) → All (R x) xs
first_pairs R x xs all k d below = all zero (suc k) d (omega arith) (omega (arith, below))

pairs_more : {X : Type 0} (R : X → X → Type 0) (xs : List X) (x : X) → AllPairs R xs → All (λ y. R y x) xs → AllPairs R (xs ++ x ∷ [])
pairs_more R [] x pairs before = λ i j d less below. absurd (omega (arith, less, below))
pairs_more R (y ∷ ys) x pairs before =
    AllPairs-cons R y (ys ++ x ∷ [])
    (All-append (R y) ys (x ∷ []) (first_pairs R y ys pairs) (one_each (R y) x (before zero y (omega arith))))
    (pairs_more R ys x (rest_pairs R y ys pairs) (rest_all (λ z. R z x) y ys before))

one_all : {X : Type 0} (P : X → Type 0) (x : X) (xs : List X) → P x → All P xs → All P (x ∷ xs)
one_all P x xs here more zero d below = here
one_all P x xs here more (suc k) d below = more k d (omega (arith, below))

-- a text is none of those of names, or one of them
none_among : (names : List FlatName) (text : Ident) → is_among (map (λ name. name.text) names) text ≡ false → All (λ other. other.text ≢ text) names
none_among [] text none = λ k d below. absurd (omega (arith, below))
none_among (x ∷ names) text none = by (bytes_eq text x.text) refl none (none_among names text)
  where
    by : (b : Bool) → bytes_eq text x.text ≡ b → (b || is_among (map (λ name. name.text) names) text) ≡ false
        → (is_among (map (λ name. name.text) names) text ≡ false → All (λ other. other.text ≢ text) names) → All (λ other. other.text ≢ text) (x ∷ names)
    by true same not again = absurd (cc not)
    by false same not again =
        one_all (λ other. other.text ≢ text) x names (λ is. absurd (cc (same, (bytes_eq-Decides text x.text).1 (sym is)))) (again not)

some_among : (names : List FlatName) (text : Ident) → is_among (map (λ name. name.text) names) text ≡ true
    → (k : ℕ) × (name : FlatName) × (k < length names) × ((d : FlatName) → get_or names k d ≡ name) × (name.text ≡ text)
some_among [] text some = absurd (cc some)
some_among (x ∷ names) text some = by (bytes_eq text x.text) refl some (some_among names text)
  where
    by : (b : Bool) → bytes_eq text x.text ≡ b → (b || is_among (map (λ name. name.text) names) text) ≡ true
        → (is_among (map (λ name. name.text) names) text ≡ true → (k : ℕ) × (name : FlatName) × (k < length names) × ((d : FlatName) → get_or names k d ≡ name) × (name.text ≡ text))
        → (k : ℕ) × (name : FlatName) × (k < length (x ∷ names)) × ((d : FlatName) → get_or (x ∷ names) k d ≡ name) × (name.text ≡ text)
    by true same is again = (zero, x, omega arith, λ d. refl, sym ((bytes_eq-Decides text x.text).0 same))
    by false same is again = let (k, name, within, at, text_is) = again is in (suc k, name, omega (arith, within), at, text_is)

module _ (names : List FlatName) (i : ℕ) (x : FlatName) (within : i < length names) (is : x ≡ get_or names i x) where
  -- the first names and one more
  pub apart_more : is_among (map (λ name. name.text) (take i names)) x.text ≡ false → AllPairs Differ (take i names) → AllPairs Differ (take (i + 1) names)
  apart_more none before =
      let same : get_or names i x ≡ x = sym is in
      subst (AllPairs Differ) (sym (take_more names i x within ∙ ap (λ y. take i names ++ y ∷ []) same))
      (pairs_more Differ (take i names) x before (none_among (take i names) x.text none))

  pub alike_more : is_among (map (λ name. name.text) (take i names)) x.text ≡ true → AllPairs Differ names → ⊥
  alike_more some pairs =
      let (k, name, under, at, text) = some_among (take i names) x.text some in
      let few = length-take-le i names (omega (arith, within)) in
      let before : k < i = omega (arith, under, few) in
      let there : get_or names k x ≡ name = sym (get_or-take i names k x before) ∙ at x in
      pairs k i x before within (ap (λ n. n.text) there ∙ text ∙ ap (λ n. n.text) is)

  -- whether it is still so
  pub next : (apart added : Bool) → is_among (map (λ name. name.text) (take i names)) x.text ≡ not added
      → (apart ≡ true → AllPairs Differ (take i names)) → (apart ≡ false → AllPairs Differ names → ⊥)
      → ((apart && added) ≡ true → AllPairs Differ (take (i + 1) names)) × ((apart && added) ≡ false → AllPairs Differ names → ⊥)
  next true true among all none = (λ t. apart_more among (all refl), λ f. absurd (cc f))
  next true false among all none = (λ t. absurd (cc t), λ f pairs. alike_more among pairs)
  next false added among all none = (λ t. absurd (cc t), λ f pairs. none refl pairs)

-- at the end it is decided
pub decided : (names : List FlatName) (i : ℕ) (apart : Bool) → length names ≤ i → (apart ≡ true → AllPairs Differ (take i names)) → (apart ≡ false → AllPairs Differ names → ⊥)
    → IsTrue apart ↔ AllPairs Differ names
decided names i true past all none = (λ t. subst (AllPairs Differ) (take_all i names past) (all refl), λ pairs. refl)
decided names i false past all none = (λ t. absurd (cc t), λ pairs. absurd (none refl pairs))
