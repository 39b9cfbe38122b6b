-- Classes by the places of their names, and their ranks.
use Rattle.std.proofs.Common.{◌≡◌, ap, sym, ◌∙◌, subst, ℕ, ◌+◌, ◌<◌, ◌≤◌, ◌⊎◌, inl, inr, List, length, map, Some, slice_get, slice_set, Contains, arith}
use Rattle.std.specs.List.Sorted.{IsPermutation, IsNonDecreasingBy}
use Rattle.std.proofs.lemmas.Bool.{cases_lt}
use Rattle.std.proofs.lemmas.List.Sorted.{Contains-permutation, IsPermutation-sym}
use Rattle.std.proofs.lemmas.Option.{slice_get_within, get_or_from_slice_get}
use Rattle.mo_parser.specs.declared.tree.ClassDef.{ClassDef}
use Rattle.class_order.specs.declared.ranks.Placed.{Placed}
use Rattle.class_order.specs.Places.{name_at}
use Rattle.class_order.specs.private.Ranks.{placed, AreByPlace, AreRanks, rank_of}
use Rattle.class_order.proofs.Lists.{stands, listed, set_or, get_map, map_get}

pub by_place : (classes : List ClassDef) (reached : List ℕ) (start found : List Placed) → start ≡ map (placed classes) reached → IsPermutation start found
    → IsNonDecreasingBy (λ p. p.place) found → AreByPlace classes reached found
by_place classes reached start found is moved up = record {
  every = λ class inside. Contains-permutation start found (placed classes class) moved (subst (λ s. Contains s (placed classes class)) (sym is) (in_map class inside));
  only = λ i entry at. out_map entry (Contains-permutation found start entry (IsPermutation-sym start found moved) (listed found i entry at));
  rises = λ i j a b le one other.
      let low = up i j a le (slice_get_within found j b other) in
      let e = ap (λ p. p.place) (get_or_from_slice_get found i a a one) in
      let f = ap (λ p. p.place) (get_or_from_slice_get found j b a other) in
      omega (arith, low, e, f);
}
  where
    in_map : (class : ℕ) → Contains reached class → Contains (map (placed classes) reached) (placed classes class)
    in_map class inside =
        let at = stands reached class inside in
        listed (map (placed classes) reached) at.0 (placed classes class) (map_get (placed classes) reached at.0 class at.1)

    out_map : (entry : Placed) → Contains start entry → Contains reached entry.class × (entry.place ≡ name_at classes entry.class)
    out_map entry inside =
        let at = stands start entry inside in
        let from = get_map (placed classes) reached at.0 entry (subst (λ s. slice_get s at.0 ≡ Some entry) is at.1) in
        let same : from.0 ≡ entry.class = ap (λ p. p.class) from.2 in
        (subst (Contains reached) same (listed reached at.0 from.0 from.1), sym (ap (λ p. p.place) from.2) ∙ ap (name_at classes) same)

pub no_ranks : (found : List Placed) (ranks : List ℕ) → AreRanks found 0 ranks
no_ranks found ranks k entry below = absurd (omega (arith, below))
