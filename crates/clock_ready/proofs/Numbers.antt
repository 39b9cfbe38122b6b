-- Members that a chain joins have one number.
use Rattle.std.proofs.Common.{◌≡◌, sym, subst, ℕ, ◌<◌, List, get_or, arith}
use Rattle.std.proofs.lemmas.Option.{get_or_from_slice_get}
use Rattle.mo_connect.specs.Chain.{Chain}
use Rattle.mo_connect.proofs.Chains.{follow, reversed}
use Rattle.clock_terms.specs.Classing.{AreNumbered}
use Rattle.clock_terms.proofs.Marking.{get_below}

pub same_number : (Step : ℕ → ℕ → Type 0) (IsOne : ℕ → Type 0) (firsts : List ℕ) (number_of : ℕ → ℕ) → AreNumbered IsOne (Chain Step) firsts number_of
    → (a b : ℕ) → IsOne a → IsOne b → Chain Step a b → number_of a ≡ number_of b
same_number Step IsOne firsts number_of are a b in_a in_b joined =
    let (first, at_first, to_a, le_a) = are.found a in_a in
    let (second, at_second, to_b, le_b) = are.found b in_b in
    let c = number_of a in
    let d = number_of b in
    let lt_c = get_below firsts c first at_first in
    let lt_d = get_below firsts d second at_second in
    let both : Chain Step first second = follow Step first b second (follow Step first a b to_a joined) (reversed Step second b to_b) in
    let get_first : get_or firsts c 0 ≡ first = get_or_from_slice_get firsts c first 0 at_first in
    let get_second : get_or firsts d 0 ≡ second = get_or_from_slice_get firsts d second 0 at_second in
    let not_less : c < d → ⊥ = λ lt. are.apart c d 0 lt lt_d
    (subst (λ x. Chain Step x (get_or firsts d 0)) (sym get_first) (subst (λ x. Chain Step first x) (sym get_second) both)) in
    let not_more : d < c → ⊥ = λ lt. are.apart d c 0 lt lt_c
    (subst (λ x. Chain Step x (get_or firsts c 0)) (sym get_second) (subst (λ x. Chain Step second x) (sym get_first) (reversed Step first second both))) in
    omega arith
