-- The places of classes, by their first members.
use Rattle.std.proofs.Common.{◌≡◌, refl, ap, subst, ◌∙◌, ℕ, zero, suc, ◌+◌, ◌-◌, ◌<◌, ◌≤◌, inl, inr, List, [], ◌∷◌, ◌++◌, length, map, slice_get, get_or, Some, None, arith, ⊎_elim, ◌⊎◌}
use Rattle.std.proofs.lemmas.List.{length-append}
use Rattle.flat_model.specs.declared.model.FlatModel.{FlatModel}
use Rattle.flat_model.specs.declared.place.Place.{Place}
use Rattle.flat_model.specs.declared.place.Place.TheVariants as place
use Rattle.clock_terms.specs.declared.data.NodeOf.{NodeOf}
use Rattle.clock_terms.specs.Nodes.{Node, nodes_of, entry}
use Rattle.clock_terms.specs.Said.{numbered}
use Rattle.clock_terms.specs.Classing.{IsPlaceOf}
use Rattle.base_partition.specs.private.Placed.{ArePlaces}

get_of_map : (nodes : List Node) (j : ℕ) → j < length nodes → (node : Node) × (slice_get nodes j ≡ Some node) × ((d : NodeOf) → get_or (map entry nodes) j d ≡ entry node)
get_of_map [] j within = absurd (omega (arith, within))
get_of_map (node ∷ nodes) zero within = (node, refl, λ d. refl)
get_of_map (node ∷ nodes) (suc j) within = get_of_map nodes j (omega (arith, within))

pub count_map : (nodes : List Node) → length (map entry nodes) ≡ length nodes
count_map [] = refl
count_map (node ∷ nodes) = ap suc (count_map nodes)

pub none_behind : {X : Type 0} (xs : List X) (i : ℕ) → slice_get xs i ≡ None → length xs ≤ i
none_behind [] i is = omega arith
none_behind (x ∷ xs) zero is = absurd (cc is)
none_behind (x ∷ xs) (suc i) is = let e = none_behind xs i is in omega (arith, e)

-- a first member behind the names has the equation of its node
pub node_place : (model : FlatModel) (entries : List NodeOf) (first : ℕ) (d : NodeOf) → entries ≡ map entry (nodes_of model) → length model.names ≤ first → first < length model.names + length entries
    → IsPlaceOf model first (place.Equation (get_or entries (first - length model.names) d).equation)
node_place model entries first d is behind within =
    let j = first - length model.names in
    let size : length entries ≡ length (nodes_of model) = ap length is ∙ count_map (nodes_of model) in
    let found = get_of_map (nodes_of model) j (omega (arith, behind, within, size)) in
    let e : get_or entries j d ≡ entry found.0 = ap (λ es. get_or es j d) is ∙ found.2 d in
    inr (j, (let n : first ≡ numbered model j = omega (arith, behind) in n), found.0, found.1, ap (λ n. place.Equation n.equation) e)

pushed_get : {X : Type 0} (xs : List X) (y x : X) (i : ℕ) → slice_get (xs ++ y ∷ []) i ≡ Some x → ((i < length xs) × (slice_get xs i ≡ Some x)) ⊎ ((i ≡ length xs) × (y ≡ x))
pushed_get [] y x zero is = inr (refl, (let e : y ≡ x = cc is in e))
pushed_get [] y x (suc i) is = absurd (cc is)
pushed_get (z ∷ zs) y x zero is = inl (omega arith, is)
pushed_get (z ∷ zs) y x (suc i) is = ⊎_elim (λ (lt, e). inl (omega (arith, lt), e)) (λ (n, e). inr (ap suc n, e)) (pushed_get zs y x i is)

pub places_push : (model : FlatModel) (firsts : List ℕ) (places : List Place) (first : ℕ) (p : Place) → IsPlaceOf model first p → ArePlaces model firsts places → ArePlaces model (firsts ++ first ∷ []) (places ++ p ∷ [])
places_push model firsts places first p placed h = record {
  count = let e = h.count in omega (arith, e, length-append places (p ∷ []), length-append firsts (first ∷ []));
  each = λ c f q is_first is_place. ⊎_elim
      (λ (below, e). ⊎_elim
      (λ (_, e'). h.each c f q e e')
      (λ (last, _). absurd (let s = h.count in omega (arith, below, last, s)))
      (pushed_get places p q c is_place))
      (λ (last, e). ⊎_elim
      (λ (below, _). absurd (let s = h.count in omega (arith, below, last, s)))
      (λ (_, e'). subst (λ x. IsPlaceOf model x q) e (subst (λ x. IsPlaceOf model first x) e' placed))
      (pushed_get places p q c is_place))
      (pushed_get firsts first f c is_first);
}
