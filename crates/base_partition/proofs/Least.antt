-- The first members of classes.
use Rattle.std.proofs.Common.{◌≡◌, ◌∙◌, sym, subst, ℕ, zero, suc, ◌+◌, ◌<◌, ◌≤◌, ◌⊎◌, inl, inr, ⊎_elim, List, [], ◌∷◌, ◌++◌, length, take, get_or, slice_index_or, slice_set, Contains, arith}
use Rattle.std.proofs.lemmas.List.{take_more, take_all, get_or_default, get_or-set_same, get_or-set_other}
use Rattle.std.proofs.lemmas.List.Elements.{Contains-push, Contains-push_cases, Contains-append_left}
use Rattle.std.proofs.Math.Seq.{take-append_seam}
use Rattle.std.proofs.lemmas.Bool.{cases_eq, cases_order}
use Rattle.std.proofs.lemmas.List.Kept.{AllPairs-from_increasing}
use Rattle.std.specs.List.Sorted.{IsStrictlyIncreasing}
use Rattle.mo_connect.specs.declared.Pair.{Pair}
use Rattle.mo_connect.specs.Chain.{AreJoined, stay}
use Rattle.mo_connect.specs.Classes.{AreClasses}
use Rattle.base_partition.specs.private.First.{IsFirst, Marks, AllMarked}

abbrev pub Marked : ℕ → List ℕ → ℕ → List ℕ → List ℕ → Type 0
Marked i class least old new = (x : ℕ) →
    (Contains (take i class) x × (slice_index_or new x 0 ≡ least))
    ⊎ ((Contains (take i class) x → ⊥) × (slice_index_or new x 0 ≡ slice_index_or old x 0))

pub mark_more : (i least : ℕ) (class old new : List ℕ) → i < length class → get_or class i 0 < length new → Marked i class least old new
    → Marked (i + 1) class least old (slice_set new (get_or class i 0) least)
mark_more i least class old new within bound h x = elim (cases_eq (get_or class i 0) x) [
  | inl same ↦ inl (
    rw (take_more class i 0 within) (subst (λ z. Contains (take i class ++ get_or class i 0 ∷ []) z) same (Contains-push (take i class) (get_or class i 0))),
    subst (λ z. slice_index_or (slice_set new (get_or class i 0) least) z 0 ≡ least) same (get_or-set_same new (get_or class i 0) least 0 bound),
  )
  | inr other ↦ ⊎_elim
      (λ (in_it, v). inl (rw (take_more class i 0 within) (Contains-append_left (take i class) (get_or class i 0 ∷ []) x in_it), get_or-set_other new (get_or class i 0) x least 0 (λ e. other (sym e)) ∙ v))
      (λ (out, v). inr (
        (λ w. ⊎_elim out (λ e. other e) (Contains-push_cases (take i class) (get_or class i 0) x (subst (λ l. Contains l x) (take_more class i 0 within) w))),
        get_or-set_other new (get_or class i 0) x least 0 (λ e. other (sym e)) ∙ v,
      ))
      (h x)
]

-- one class more
pub classes_more : (n : ℕ) (classes : List (List ℕ)) (start old new : List ℕ) → n < length classes → AllMarked n classes start old → Marks (slice_index_or classes n []) old new → AllMarked (n + 1) classes start new
classes_more n classes start old new within h m x = ⊎_elim
    (λ (in_it, v). inl (n, omega arith, in_it, v))
    (λ (out, v). ⊎_elim
    (λ (k, lt, in_it, w). inl (k, omega (arith, lt), in_it, v ∙ w))
    (λ (none, w). inr ((λ k lt in_it. elim (cases_eq k n) [ inl e ↦ out (subst (λ j. Contains (slice_index_or classes j []) x) e in_it) | inr ne ↦ none k (omega (arith, lt, ne)) in_it ]), v ∙ w))
    (h x))
    (m x)

-- at the end each number has the least that it is joined to
pub least_of : (count : ℕ) (pairs : List Pair) (classes : List (List ℕ)) (old first : List ℕ) → AreClasses count pairs classes → AllMarked (length classes) classes old first
    → ((x : ℕ) → x < count → slice_index_or old x 0 ≡ x) → (x : ℕ) → x < count → IsFirst pairs x (slice_index_or first x 0)
least_of count pairs classes old first a m own x below = ⊎_elim
    (λ (k, lt, in_it, v). subst (λ f. IsFirst pairs x f) (sym v) (in_class k lt in_it))
    (λ (none, v). subst (λ f. IsFirst pairs x f) (sym (v ∙ own x below)) (record { joined = stay x; least = λ y j. alone none y j }))
    (m x)
  where
    at_place : (k : ℕ) (class : List ℕ) → k < length classes → slice_index_or classes k class ≡ class → class ≡ slice_index_or classes k []
    at_place k class lt is = sym is ∙ get_or_default classes k class [] lt

    one_place : (k l : ℕ) → k < length classes → l < length classes → Contains (slice_index_or classes k []) x → Contains (slice_index_or classes l []) x → k ≡ l
    one_place k l lk ll hk hl = elim (cases_order k l) [
      | inl e ↦ e
      | inr ne ↦ ⊎_elim (λ lt. absurd (a.apart k l [] lt ll x hk hl)) (λ gt. absurd (a.apart l k [] gt lk x hl hk)) ne
    ]

    head_least : (class : List ℕ) → IsStrictlyIncreasing class → (z : ℕ) → Contains class z → slice_index_or class 0 0 ≤ z
    head_least class rises z (zero, lt, is) = let e = get_or_default class 0 z 0 lt in omega (arith, is, e)
    head_least class rises z (suc i, lt, is) =
        let up = AllPairs-from_increasing class rises 0 (suc i) z (omega arith) lt in
        let e = get_or_default class 0 z 0 (omega (arith, lt)) in
        omega (arith, is, e, up)

    alone : ((k : ℕ) → k < length classes → Contains (slice_index_or classes k []) x → ⊥) → (y : ℕ) → AreJoined pairs y x → x ≤ y
    alone none y j = elim (cases_eq y x) [
      | inl e ↦ omega (arith, e)
      | inr ne ↦ let w = a.together y x ne j in absurd (none w.0 w.2 (subst (λ l. Contains l x) (at_place w.0 w.1 w.2 w.3) w.4.1))
    ]

    in_class : (k : ℕ) → k < length classes → Contains (slice_index_or classes k []) x → IsFirst pairs x (slice_index_or (slice_index_or classes k []) 0 0)
    in_class k lt in_it =
        let class = slice_index_or classes k [] in
        let some = a.several k [] lt in
        let head : Contains class (slice_index_or class 0 0) = (0, omega (arith, some), get_or_default class 0 (slice_index_or class 0 0) 0 (omega (arith, some))) in
        record {
          joined = a.joined k [] lt (slice_index_or class 0 0) x head in_it;
          least = λ y j. elim (cases_eq y x) [
            | inl e ↦ subst (λ z. slice_index_or class 0 0 ≤ z) (sym e) (head_least class (a.rising k [] lt) x in_it)
            | inr ne ↦
                let w = a.together y x ne j in
                let here = at_place w.0 w.1 w.2 w.3 in
                let same : w.0 ≡ k = one_place w.0 k w.2 lt (subst (λ l. Contains l x) here w.4.1) in_it in
                head_least class (a.rising k [] lt) y (subst (λ i. Contains (slice_index_or classes i []) y) same (subst (λ l. Contains l y) here w.4.0))
          ];
        }

pub mark_done : (i least : ℕ) (class old new : List ℕ) → length class ≤ i → least ≡ slice_index_or class 0 0 → Marked i class least old new → Marks class old new
mark_done i least class old new all is h x = ⊎_elim
    (λ (in_it, v). inl (subst (λ l. Contains l x) (take_all i class all) in_it, v ∙ is))
    (λ (out, v). inr ((λ w. out (subst (λ l. Contains l x) (sym (take_all i class all)) w)), v))
    (h x)

pub written_back : (n : ℕ) (new rest : List ℕ) → n ≡ length new → take n (new ++ rest) ≡ new
written_back n new rest e = rw e (take-append_seam new rest)
