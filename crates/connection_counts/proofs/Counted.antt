-- The equations of connection sets are those of the members that are joined to lesser ones.
use Rattle.std.proofs.Common.{◌≡◌, ◌≢◌, refl, ap, sym, subst, ℕ, zero, suc, ◌<◌, ◌⊎◌, inl, inr, List, [], ◌∷◌, ◌++◌, map, flat_map, length, Contains, All, AllPairs, length-append, arith}
use Rattle.std.specs.List.Sorted.{IsStrictlyIncreasing}
use Rattle.std.proofs.lemmas.List.{length-map}
use Rattle.std.proofs.lemmas.List.Elements.{Contains-append_cases}
use Rattle.std.proofs.lemmas.List.Kept.{AllPairs-from_increasing}
use Rattle.mo_connect.specs.declared.Pair.{Pair}
use Rattle.mo_connect.specs.Chain.{AreJoined}
use Rattle.connection_equations.specs.Sets.{equal, equations_of_set}
use Rattle.connection_counts.specs.Laws.{CountLaw}
use Rattle.connection_counts.proofs.Lows.{IsLow, AllLow, IsFresh, AreDistinct, at_most}

-- the members of a set but the first
abbrev others_of : List ℕ → List ℕ
others_of [] = []
others_of (first ∷ others) = others

others_in : (set : List ℕ) (y : ℕ) → Contains (others_of set) y → Contains set y
others_in [] y at = at
others_in (first ∷ others) y (k, within, is) = (suc k, omega (arith, within), is)

as_many : (sets : List (List ℕ)) → length (flat_map equations_of_set sets) ≡ length (flat_map others_of sets)
as_many [] = refl
as_many ([] ∷ sets) = as_many sets
as_many ((first ∷ others) ∷ sets) =
    let one = length-append (map (equal first) others) (flat_map equations_of_set sets) in
    let two = length-map others (equal first) in
    let three = length-append others (flat_map others_of sets) in
    let more = as_many sets in
    omega (arith, one, two, three, more)

-- where a member of the others stands
in_set : (sets : List (List ℕ)) (y : ℕ) → Contains (flat_map others_of sets) y → (set : List ℕ) × Contains sets set × Contains set y
in_set [] y at = absurd (omega (arith, at.1))
in_set (set ∷ sets) y at = by (Contains-append_cases (others_of set) (flat_map others_of sets) y at) (in_set sets y)
  where
    by : Contains (others_of set) y ⊎ Contains (flat_map others_of sets) y → (Contains (flat_map others_of sets) y → (s : List ℕ) × Contains sets s × Contains s y)
        → (s : List ℕ) × Contains (set ∷ sets) s × Contains s y
    by (inl here) again = (set, (zero, omega arith, refl), others_in set y here)
    by (inr there) again = let (s, (k, within, is), member) = again there in (s, (suc k, omega (arith, within), is), member)

fresh_all : (y : ℕ) (zs : List ℕ) → ((z : ℕ) → Contains zs z → y ≢ z) → IsFresh y zs
fresh_all y [] each = tt
fresh_all y (z ∷ zs) each = (each z (zero, omega arith, refl), fresh_all y zs (λ w at. each w (suc at.0, omega (arith, at.1), at.2)))

fresh_both : (y : ℕ) (xs ys : List ℕ) → IsFresh y xs → IsFresh y ys → IsFresh y (xs ++ ys)
fresh_both y [] ys one other = other
fresh_both y (x ∷ xs) ys one other = (one.0, fresh_both y xs ys one.1 other)

low_both : (pairs : List Pair) (xs ys : List ℕ) → AllLow pairs xs → AllLow pairs ys → AllLow pairs (xs ++ ys)
low_both pairs [] ys one other = other
low_both pairs (x ∷ xs) ys one other = (one.0, low_both pairs xs ys one.1 other)

distinct_both : (xs ys : List ℕ) → AreDistinct xs → AreDistinct ys → ((x : ℕ) → Contains xs x → IsFresh x ys) → AreDistinct (xs ++ ys)
distinct_both [] ys one other apart = other
distinct_both (x ∷ xs) ys one other apart =
    (fresh_both x xs ys one.0 (apart x (zero, omega arith, refl)), distinct_both xs ys one.1 other (λ y at. apart y (suc at.0, omega (arith, at.1), at.2)))

abbrev Rises : List ℕ → Type 0
Rises xs = AllPairs (λ x y. x < y) xs

rest_rises : (x : ℕ) (xs : List ℕ) → Rises (x ∷ xs) → Rises xs
rest_rises x xs rises i j d below within = rises (suc i) (suc j) d (omega (arith, below)) (omega (arith, within))

first_less : (x : ℕ) (xs : List ℕ) → Rises (x ∷ xs) → (y : ℕ) → Contains xs y → x < y
first_less x xs rises y (k, within, is) = subst (λ z. x < z) is (rises 0 (suc k) y (omega arith) (omega (arith, within)))

distinct_rising : (xs : List ℕ) → Rises xs → AreDistinct xs
distinct_rising [] rises = tt
distinct_rising (x ∷ xs) rises =
    (fresh_all x xs (λ y at same. let less = first_less x xs rises y at in omega (arith, less, same)), distinct_rising xs (rest_rises x xs rises))

low_all : (pairs : List Pair) (ys : List ℕ) → ((y : ℕ) → Contains ys y → IsLow pairs y) → AllLow pairs ys
low_all pairs [] each = tt
low_all pairs (y ∷ ys) each = ((λ not. not (each y (zero, omega arith, refl))), low_all pairs ys (λ z at. each z (suc at.0, omega (arith, at.1), at.2)))

module _ (pairs : List Pair) where
  abbrev AreOne : List ℕ → Type 0
  AreOne set = (x y : ℕ) → Contains set x → Contains set y → AreJoined pairs x y

  others_low : (set : List ℕ) → AreOne set → Rises set → AllLow pairs (others_of set)
  others_low [] joined rises = tt
  others_low (first ∷ others) joined rises =
      low_all pairs others (λ y at. (first, first_less first others rises y at, joined first y (zero, omega arith, refl) (suc at.0, omega (arith, at.1), at.2)))

  others_distinct : (set : List ℕ) → Rises set → AreDistinct (others_of set)
  others_distinct [] rises = tt
  others_distinct (first ∷ others) rises = distinct_rising others (rest_rises first others rises)

  abbrev Apart : List (List ℕ) → Type 0
  Apart sets = AllPairs (λ set later. (x : ℕ) → Contains set x → Contains later x → ⊥) sets

  head_apart : (set : List ℕ) (sets : List (List ℕ)) → Apart (set ∷ sets) → (x : ℕ) → Contains set x → (later : List ℕ) → Contains sets later → Contains later x → ⊥
  head_apart set sets apart x here later (k, within, is) there =
      apart 0 (suc k) later (omega arith) (omega (arith, within)) x here (subst (λ s. Contains s x) (sym is) there)

  rest_apart : (set : List ℕ) (sets : List (List ℕ)) → Apart (set ∷ sets) → Apart sets
  rest_apart set sets apart i j d below within = apart (suc i) (suc j) d (omega (arith, below)) (omega (arith, within))

  all_low : (sets : List (List ℕ)) → All AreOne sets → All IsStrictlyIncreasing sets → AllLow pairs (flat_map others_of sets)
  all_low [] joined rising = tt
  all_low (set ∷ sets) joined rising =
      low_both pairs (others_of set) (flat_map others_of sets) (others_low set (joined 0 set (omega arith)) (AllPairs-from_increasing set (rising 0 set (omega arith))))
      (all_low sets (λ k d within. joined (suc k) d (omega (arith, within))) (λ k d within. rising (suc k) d (omega (arith, within))))

  all_distinct : (sets : List (List ℕ)) → Apart sets → All IsStrictlyIncreasing sets → AreDistinct (flat_map others_of sets)
  all_distinct [] apart rising = tt
  all_distinct (set ∷ sets) apart rising =
      distinct_both (others_of set) (flat_map others_of sets) (others_distinct set (AllPairs-from_increasing set (rising 0 set (omega arith))))
      (all_distinct sets (rest_apart set sets apart) (λ k d within. rising (suc k) d (omega (arith, within))))
      (λ x at. fresh_all x (flat_map others_of sets) (λ z there same.
      let found = in_set sets z there in
      head_apart set sets apart x (others_in set x at) found.0 found.1 (subst (Contains found.0) (sym same) found.2)))

pub count_law : CountLaw
count_law count pairs equations are =
    let most = at_most pairs (flat_map others_of are.sets) (all_distinct pairs are.sets are.classes.apart are.classes.rising) (all_low pairs are.sets are.classes.joined are.classes.rising) in
    let long = as_many are.sets in
    let whole = ap length are.are in
    omega (arith, most, long, whole)
