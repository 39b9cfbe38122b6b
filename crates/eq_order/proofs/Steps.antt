-- One turn of the search for uses.
use Rattle.std.proofs.Common.{◌≡◌, ◌≢◌, refl, sym, ap, subst, ◌∙◌, ℕ, ◌+◌, ◌<◌, ◌≤◌, Bool, true, false, List, [], ◌∷◌, ◌++◌, inl, inr, length, get_or, set, arith, map, append_assoc}
use Rattle.std.proofs.lemmas.Bool.{cases_eq}
use Rattle.std.proofs.Math.ListN.{get_or-map}
use Rattle.std.proofs.lemmas.List.Sums.{length-filter}
use Rattle.std.specs.BTreeMap.{is_at}
use Rattle.std.specs.List.{list_any}
use Rattle.eq_order.proofs.Counts.{within_left}
use Rattle.std.specs.Ordering.{nat_cmp}
use Rattle.std.specs.BTreeSet.{BTreeSet, contains, Updates, IsLowerBound, btree_set_len}
use Rattle.flat_model.specs.declared.equation.Equation.{Equation}
use Rattle.eq_order.specs.declared.uses.Use.{Use}
use Rattle.eq_order.specs.Order.{HasSpine}
use Rattle.eq_orient.specs.Gathered.{count_of}
use Rattle.eq_order.specs.private.Reaching.{list_at, is_waiting, waiting, CanTake, IsNext, AreTaken, flags_after, AreLeft, AreMirrored}
use Rattle.eq_order.proofs.Sets.{stays_in, least_in}
use Rattle.eq_order.proofs.Turns.{counts_one, counts_after, waits, waits_same, reads_it}

-- each count has gone down by how often the equation reads x
abbrev pub GoDown : List (List ℕ) → ℕ → List ℕ → List ℕ → Type 0
GoDown reads x left now = (i : ℕ) → get_or now i 0 + count_of x (list_at reads i) ≡ get_or left i 0

pub left_after : (reads : List (List ℕ)) (reached : List Bool) (x : ℕ) (left now : List ℕ)
    → is_waiting reached x ≡ true → AreLeft reads reached left → GoDown reads x left now → AreLeft reads (set reached x true) now
left_after reads reached x left now waits are down i =
    omega (arith, are i, down i, counts_after reached x waits (list_at reads i))

-- what can be taken once x is reached is noted
pub ready_after : (equations : List Equation) (reads : List (List ℕ)) (reached : List Bool) (x at : ℕ) (left now : List ℕ) (ready rest after : BTreeSet ℕ)
    → AreLeft reads reached left → GoDown reads x left now → waiting reached (list_at reads at) ≡ x ∷ []
    → ((i z : ℕ) → CanTake equations reads reached i z → contains nat_cmp ready i ≡ true)
    → Updates nat_cmp ready rest at false
    → ((i : ℕ) → contains nat_cmp rest i ≡ true → contains nat_cmp after i ≡ true)
    → ((i : ℕ) → get_or now i 0 ≡ 1 → get_or left i 0 ≢ 1 → contains nat_cmp after i ≡ true)
    → (i z : ℕ) → CanTake equations reads (set reached x true) i z → contains nat_cmp after i ≡ true
ready_after equations reads reached x at left now ready rest after are down alone noted popped kept added i z take =
    let names = list_at reads i in
    let still = waits reached (list_at reads at) x alone in
    let one = counts_one (set reached x true) names z take.0 in
    let here = left_after reads reached x left now still are down i in
    elim (cases_eq (get_or left i 0) 1) [
      | inl was ↦
          let none : count_of x names ≡ 0 = omega (arith, was, here, one, down i) in
          let same = waits_same reached x names none in
          let before : CanTake equations reads reached i z = (sym same ∙ take.0, take.1) in
          let apart : at ≡ i → ⊥ = λ e. let some = reads_it reached x (list_at reads at) alone in
          let moved : count_of x (list_at reads at) ≡ count_of x names = ap (λ j. count_of x (list_at reads j)) e in
          omega (arith, some, moved, none) in
          kept i (stays_in ready rest at i popped apart (noted i z before))
      | inr other ↦ added i (here ∙ one) other
    ]

-- an equation that cannot be taken is no loss
pub ready_less : (equations : List Equation) (reads : List (List ℕ)) (reached : List Bool) (at : ℕ) (ready rest : BTreeSet ℕ)
    → ((i z : ℕ) → CanTake equations reads reached i z → contains nat_cmp ready i ≡ true)
    → Updates nat_cmp ready rest at false → ((z : ℕ) → CanTake equations reads reached at z → ⊥)
    → (i z : ℕ) → CanTake equations reads reached i z → contains nat_cmp rest i ≡ true
ready_less equations reads reached at ready rest noted popped cannot i z take =
    stays_in ready rest at i popped (λ e. cannot z (subst (λ j. CanTake equations reads reached j z) (sym e) take)) (noted i z take)

-- the least of those noted that can be taken is the next use
pub is_next : (equations : List Equation) (reads : List (List ℕ)) (reached : List Bool) (entry : Use) (ready : BTreeSet ℕ)
    → ((i z : ℕ) → CanTake equations reads reached i z → contains nat_cmp ready i ≡ true)
    → IsLowerBound nat_cmp ready entry.equation → CanTake equations reads reached entry.equation entry.name
    → HasSpine equations entry → IsNext equations reads reached entry
is_next equations reads reached entry ready noted least takes spine = record {
  takes = takes;
  spine = spine;
  first = λ j y below take. omega (arith, below, least_in ready entry.equation j least (noted j y take));
}

pub start_left : (reads : List (List ℕ)) (reached : List Bool) (left : List ℕ) → left ≡ map length reads
    → ((i : ℕ) → waiting reached (list_at reads i) ≡ list_at reads i) → AreLeft reads reached left
start_left reads reached left are fresh i =
    ap (λ xs. get_or xs i 0) are ∙ get_or-map length reads i [] ∙ sym (ap length (fresh i)) ∙ length-filter (is_waiting reached) (list_at reads i)

pub start_ready : (equations : List Equation) (reads : List (List ℕ)) (reached : List Bool) (left : List ℕ) (ready : BTreeSet ℕ)
    → AreLeft reads reached left → ((i : ℕ) → i < length left → get_or left i 0 ≡ 1 → contains nat_cmp ready i ≡ true)
    → (i z : ℕ) → CanTake equations reads reached i z → contains nat_cmp ready i ≡ true
start_ready equations reads reached left ready are noted i z take =
    let one : get_or left i 0 ≡ 1 = are i ∙ counts_one reached (list_at reads i) z take.0 in
    noted i (within_left left i (omega (arith, one))) one

-- no equation waits for a name more often than it waits
pub enough_names : (reads readers : List (List ℕ)) (reached : List Bool) (x : ℕ) (left : List ℕ) → is_waiting reached x ≡ true
    → AreMirrored reads readers → AreLeft reads reached left → (i : ℕ) → count_of i (list_at readers x) ≤ get_or left i 0
enough_names reads readers reached x left waits mirrored are i =
    omega (arith, mirrored i x, are i, counts_after reached x waits (list_at reads i))

-- where nothing is noted, nothing can be taken
pub none_left : (equations : List Equation) (reads : List (List ℕ)) (reached : List Bool) (ready : BTreeSet ℕ)
    → ((i z : ℕ) → CanTake equations reads reached i z → contains nat_cmp ready i ≡ true) → btree_set_len ready ≡ 0
    → AreTaken equations reads reached []
none_left equations reads reached ready noted empty i z take = empty_has_none ready.keys i empty (noted i z take)
  where
    empty_has_none : (keys : List ℕ) (i : ℕ) → length keys ≡ 0 → list_any (is_at (nat_cmp i)) keys ≡ true → ⊥
    empty_has_none [] i empty has = cc
    empty_has_none (k ∷ ks) i empty has = omega (arith, empty)

-- one more use
pub taken_more : (equations : List Equation) (reads : List (List ℕ)) (start reached : List Bool) (entry : Use) (uses more : List Use)
    → more ≡ uses ++ entry ∷ [] → IsNext equations reads reached entry
    → ((rest : List Use) → AreTaken equations reads reached rest → AreTaken equations reads start (uses ++ rest))
    → (rest : List Use) → AreTaken equations reads (set reached entry.name true) rest → AreTaken equations reads start (more ++ rest)
taken_more equations reads start reached entry uses more are next taken rest then =
    subst (AreTaken equations reads start) (sym (ap (λ xs. xs ++ rest) are ∙ append_assoc uses (entry ∷ []) rest)) (taken (entry ∷ rest) (next, then))

-- one more use has its flag
pub flags_more : (start reached : List Bool) (entry : Use) (uses more : List Use) → more ≡ uses ++ entry ∷ [] → flags_after start uses ≡ reached
    → flags_after start more ≡ set reached entry.name true
flags_more start reached entry uses more are is = ap (flags_after start) are ∙ (flags_push start uses entry ∙ ap (λ flags. set flags entry.name true) is)
  where
    flags_push : (flags : List Bool) (all : List Use) (last : Use) → flags_after flags (all ++ last ∷ []) ≡ set (flags_after flags all) last.name true
    flags_push flags [] last = refl
    flags_push flags (first ∷ rest) last = flags_push (set flags first.name true) rest last
