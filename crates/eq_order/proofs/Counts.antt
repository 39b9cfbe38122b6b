-- Counts that go down as names are reached.
use Rattle.std.proofs.Common.{◌≡◌, refl, subst, sym, ap, ◌∙◌, ℕ, ◌+◌, ◌-◌, ◌<◌, ◌≤◌, ◌==◌, Bool, true, false, cond, List, inl, inr, length, get_or, set, take, sum, arith}
use Rattle.std.proofs.lemmas.Bool.{cases_eq, cases_lt, eq-eqb, ne_eqb}
use Rattle.std.proofs.lemmas.List.{get_or-set_same, get_or-set_other, get_or_past}
use Rattle.std.proofs.lemmas.List.Sums.{sum_by_more, sum_by-set, sum_by-take-le}
use Rattle.eq_orient.specs.Gathered.{count_of}

-- one more element of a list counts where it is the one
pub count_more : (xs : List ℕ) (k i : ℕ) → k < length xs → count_of i (take (k + 1) xs) ≡ count_of i (take k xs) + cond (get_or xs k 0 == i) 1 0
count_more xs k i within = sum_by_more (λ y. cond (y == i) 1 0) xs k 0 within

pub count_yes : (xs : List ℕ) (k : ℕ) → k < length xs → count_of (get_or xs k 0) (take (k + 1) xs) ≡ count_of (get_or xs k 0) (take k xs) + 1
count_yes xs k within = count_more xs k (get_or xs k 0) within ∙ ap (λ b. count_of (get_or xs k 0) (take k xs) + cond b 1 0) (eq-eqb (get_or xs k 0) (get_or xs k 0) refl)

pub count_no : (xs : List ℕ) (k i : ℕ) → k < length xs → (get_or xs k 0 ≡ i → ⊥) → count_of i (take (k + 1) xs) ≡ count_of i (take k xs)
count_no xs k i within other =
    let more = count_more xs k i within in
    let no = ne_eqb (get_or xs k 0) i other in
    let none : cond (get_or xs k 0 == i) 1 0 ≡ 0 = ap {B = ℕ} (λ b. cond b 1 0) no in
    omega (arith, more, none)

pub count_within : (xs : List ℕ) (k i : ℕ) → count_of i (take k xs) ≤ count_of i xs
count_within xs k i = sum_by-take-le (λ y. cond (y == i) 1 0) xs k

-- the counts after the first k of some equations
abbrev pub CountedDown : List ℕ → List ℕ → ℕ → List ℕ → Type 0
CountedDown readers start k left = (i : ℕ) → get_or left i 0 + count_of i (take k readers) ≡ get_or start i 0

-- the next one can go down by one
pub enough_left : (readers start left : List ℕ) (k : ℕ) → k < length readers
    → ((i : ℕ) → count_of i readers ≤ get_or start i 0) → CountedDown readers start k left
    → 1 ≤ get_or left (get_or readers k 0) 0
enough_left readers start left k within enough down =
    let at = get_or readers k 0 in
    let yes = count_yes readers k within in
    let all = count_within readers (k + 1) at in
    omega (arith, yes, all, enough at, down at)

pub within_left : (left : List ℕ) (i : ℕ) → 1 ≤ get_or left i 0 → i < length left
within_left left i some = elim (cases_lt i (length left)) [
  | inl inside ↦ inside
  | inr past ↦ absurd (omega (arith, some, get_or_past left i 0 past))
]

-- one more goes down by one
pub one_down : (readers start left now : List ℕ) (k : ℕ) → k < length readers
    → ((i : ℕ) → count_of i readers ≤ get_or start i 0) → CountedDown readers start k left
    → now ≡ set left (get_or readers k 0) (get_or left (get_or readers k 0) 0 - 1)
    → CountedDown readers start (k + 1) now
one_down readers start left now k within enough down is i =
    let at = get_or readers k 0 in
    let some = enough_left readers start left k within enough down in
    let inside = within_left left at some in
    let read : get_or now i 0 ≡ get_or (set left at (get_or left at 0 - 1)) i 0 = ap (λ all. get_or all i 0) is in
    elim (cases_eq at i) [
      | inl same ↦ subst (λ j. get_or now j 0 + count_of j (take (k + 1) readers) ≡ get_or start j 0) same
          (let here : get_or now at 0 ≡ get_or left at 0 - 1 = ap (λ all. get_or all at 0) is ∙ get_or-set_same left at (get_or left at 0 - 1) 0 inside in
          omega (arith, here, some, count_yes readers k within, down at))
      | inr other ↦
          let kept : get_or (set left at (get_or left at 0 - 1)) i 0 ≡ get_or left i 0 = get_or-set_other left at i (get_or left at 0 - 1) 0 (λ e. other (sym e)) in
          omega (arith, read, kept, count_no readers k i within other, down i)
    ]

-- the whole sum goes down by one
pub sum_down : (left now : List ℕ) (at : ℕ) → 1 ≤ get_or left at 0 → now ≡ set left at (get_or left at 0 - 1) → sum now + 1 ≡ sum left
sum_down left now at some is =
    let inside = within_left left at some in
    let e = sum_by-set (λ (x : ℕ). x) left at (get_or left at 0 - 1) 0 inside in
    let same : sum now ≡ sum (set left at (get_or left at 0 - 1)) = ap sum is in
    omega (arith, e, same, some)

-- a place that was not written is as it was
pub elsewhere : (left : List ℕ) (at i v n : ℕ) → (i ≡ at → ⊥) → get_or (set left at v) i 0 ≡ n → get_or left i 0 ≡ n
elsewhere left at i v n other is = sym (get_or-set_other left at i v 0 other) ∙ is

pub at_most_one : (b : Bool) → cond b 1 0 ≤ 1
at_most_one true = omega arith
at_most_one false = omega arith
