-- One name more than those before.
use Rattle.std.proofs.Common.{◌≢◌, zero, suc, ◌<◌, List, [], ◌∷◌, ◌++◌, length, All, AllPairs, arith}
use Rattle.std.proofs.lemmas.List.{length-append}
use Rattle.std.proofs.lemmas.List.Elements.{All-append}
use Rattle.std.proofs.lemmas.List.Kept.{AllPairs-cons}
use Rattle.flat_model.specs.declared.model.FlatName.{FlatName}
use Rattle.flat_model.specs.Models.{IsName, AreNames}
use Rattle.clock_tests.proofs.Steps.{one_each}

abbrev Differ : FlatName → FlatName → Type 0
Differ a b = a.text ≢ b.text

rest_all : {X : Type 0} (P : X → Type 0) (x : X) (xs : List X) → All P (x ∷ xs) → All P xs
rest_all P x xs all k d below = all (suc k) d (omega (arith, below))

rest_pairs : {X : Type 0} (R : X → X → Type 0) (x : X) (xs : List X) → AllPairs R (x ∷ xs) → AllPairs R xs
rest_pairs R x xs all i j d less below = all (suc i) (suc j) d (omega (arith, less)) (omega (arith, below))

first_pairs : {X : Type 0} (R : X → X → Type 0) (x : X) (xs : List X) → AllPairs R (x ∷ xs) → All (R x) xs
first_pairs R x xs all k d below = all zero (suc k) d (omega arith) (omega (arith, below))

pairs_more : {X : Type 0} (R : X → X → Type 0) (xs : List X) (x : X) → AllPairs R xs → All (λ y. R y x) xs → AllPairs R (xs ++ x ∷ [])
pairs_more R [] x pairs before = λ i j d less below. absurd (omega (arith, less, below))
pairs_more R (y ∷ ys) x pairs before =
    AllPairs-cons R y (ys ++ x ∷ [])
    (All-append (R y) ys (x ∷ []) (first_pairs R y ys pairs) (one_each (R y) x (before zero y (omega arith))))
    (pairs_more R ys x (rest_pairs R y ys pairs) (rest_all (λ z. R z x) y ys before))

-- no names
pub no_names : AreNames []
no_names = record {
  few = omega arith;
  each = λ k d below. absurd (omega (arith, below));
  apart = λ i j d less below. absurd (omega (arith, below));
}

-- the names with one more, which has another text
pub names_more : (names : List FlatName) (name : FlatName) → AreNames names → IsName name → length names < 65536 → All (λ other. other.text ≢ name.text) names → AreNames (names ++ name ∷ [])
names_more names name are is few new = record {
  few = omega (arith, few, length-append names (name ∷ []));
  each = All-append IsName names (name ∷ []) are.each (one_each IsName name is);
  apart = pairs_more Differ names name are.apart new;
}
