-- All the numbers of which something holds, rising, are one list.
use Rattle.std.proofs.Common.{◌≡◌, refl, sym, ℕ, Bool, true, false, List}
use Rattle.std.proofs.lemmas.Cmp.{nat_cmp_total}
use Rattle.std.proofs.lemmas.Map.Keys.{sorted_from_strictly_increasing}
use Rattle.std.proofs.lemmas.Map.Lookups.{btree_set_from_contains, exact_unsigned}
use Rattle.std.proofs.lemmas.Map.Views.{btree_set_contains_iff}
use Rattle.std.specs.Ordering.{nat_cmp}
use Rattle.std.specs.BTreeSet.{BTreeSet, contains}
use Rattle.eq_order.specs.Order.{AreAll}

as_set : List ℕ → BTreeSet ℕ
as_set xs = record { keys = xs }

same_answer : (b c : Bool) → (b ≡ true → c ≡ true) → (c ≡ true → b ≡ true) → b ≡ c
same_answer true c onto back = sym (onto refl)
same_answer false true onto back = back refl
same_answer false false onto back = refl

pub one_list : (P : ℕ → Type 0) (xs ys : List ℕ) → AreAll P xs → AreAll P ys → xs ≡ ys
unfolding as_set
one_list P xs ys all these =
    btree_set_from_contains nat_cmp_total (as_set xs) (as_set ys) (sorted_from_strictly_increasing xs all.rising) (sorted_from_strictly_increasing ys these.rising)
    (λ q.
    let here = btree_set_contains_iff nat_cmp_total exact_unsigned (as_set xs) q in
    let there = btree_set_contains_iff nat_cmp_total exact_unsigned (as_set ys) q in
    same_answer (contains nat_cmp (as_set xs) q) (contains nat_cmp (as_set ys) q)
    (λ e. there.1 (these.whole q (all.just q (here.0 e)))) (λ e. here.1 (all.whole q (these.just q (there.0 e)))))
    exact_unsigned
