-- How many times of a rising list are not after an instant.
use Rattle.std.proofs.Common.{◌≡◌, refl, ap, sym, ◌∙◌, ℕ, zero, suc, ◌+◌, ◌<◌, ◌≤◌, Bool, true, false, cond, List, [], ◌∷◌, length, get_or, arith, leb-true, le-leb}
use Rattle.std.specs.List.{count_by}
use Rattle.std.specs.List.Sorted.{IsPartitionedBy, IsPartitionPoint}
use Rattle.std.proofs.lemmas.List.{get_or_default}
use Rattle.std.proofs.lemmas.List.Sums.{sum_by-cons}
use Rattle.flat_model.specs.declared.clock.Moment.TheVariants.{At}
use Rattle.flat_model.specs.Moments.{IsRising, row_of}
use Rattle.rational_time.specs.declared.ratio.Ratio.{Ratio}
use Rattle.rational_time.specs.Fraction.{AtMost, at_most}
use Rattle.rational_time.proofs.Order.{cross_le_trans}

one_more : {X : Type 0} (p : X → Bool) (x : X) (xs : List X) (b : Bool) → p x ≡ b → count_by p (x ∷ xs) ≡ cond b 1 0 + count_by p xs
one_more p x xs b is = sum_by-cons (λ y. cond (p y) 1 0) x xs ∙ ap (λ c. cond c 1 0 + count_by p xs) is

none_pass : {X : Type 0} (p : X → Bool) (xs : List X) → ((k : ℕ) (d : X) → k < length xs → p (get_or xs k d) ≡ false) → count_by p xs ≡ 0
none_pass p [] none = refl
none_pass p (x ∷ xs) none =
    let rest : count_by p xs ≡ 0 = none_pass p xs (λ k d lt. none (suc k) d (omega (arith, lt))) in
    one_more p x xs false (none 0 x (omega arith)) ∙ omega (arith, rest)

-- as many pass as stand before the first that does not
count_first : {X : Type 0} (p : X → Bool) (xs : List X) (i : ℕ) → i ≤ length xs → ((k : ℕ) (d : X) → k < i → p (get_or xs k d) ≡ true)
    → ((k : ℕ) (d : X) → i ≤ k → k < length xs → p (get_or xs k d) ≡ false) → count_by p xs ≡ i
count_first p xs zero within pass fail = none_pass p xs (λ k d lt. fail k d (omega arith) lt)
count_first p [] (suc i) within pass fail = absurd (omega (arith, within))
count_first p (x ∷ xs) (suc i) within pass fail =
    let rest : count_by p xs ≡ i =
    count_first p xs i (omega (arith, within)) (λ k d lt. pass (suc k) d (omega (arith, lt))) (λ k d le lt. fail (suc k) d (omega (arith, le)) (omega (arith, lt))) in
    one_more p x xs true (pass 0 x (omega arith)) ∙ omega (arith, rest)

pub point_counts : {X : Type 0} (p : X → Bool) (xs : List X) (i : ℕ) → i ≤ length xs → IsPartitionPoint (λ y. p y ≡ true) (λ y. p y ≡ false) xs i
    → i ≡ count_by p xs
point_counts p xs i within point = sym (count_first p xs i within (λ k d lt. point.0 k d (omega arith) lt) (λ k d le lt. point.1 k d le lt))

at_most_trans : (t u v : Ratio) → AtMost t u → AtMost u v → AtMost t v
at_most_trans t u v = cross_le_trans t.num t.den u.num u.den v.num v.den u.positive

-- the first of rising times is not after any of them
first_least : (t : Ratio) (rest : List Ratio) → IsRising (t ∷ rest) → (j : ℕ) (d : Ratio) → j < length (t ∷ rest) → AtMost t (get_or (t ∷ rest) j d)
first_least t rest rising zero d lt = omega arith
first_least t [] rising (suc j) d lt = absurd (omega (arith, lt))
first_least t (u ∷ rest) rising (suc j) d lt =
    let below = rising.0 in
    at_most_trans t u (get_or (u ∷ rest) j d) (omega (arith, below)) (first_least u rest rising.1 j d (omega (arith, lt)))

rest_rises : (t : Ratio) (rest : List Ratio) → IsRising (t ∷ rest) → IsRising rest
rest_rises t [] rising = tt
rest_rises t (u ∷ rest) rising = rising.1

-- none of rising times that is not after an instant comes after one that is
pub rising_parts : (times : List Ratio) (at : Ratio) → IsRising times → IsPartitionedBy (λ u. at_most u at) times
rising_parts [] at rising i j d le lt is = absurd (omega (arith, lt))
rising_parts (t ∷ times) at rising zero j d le lt is =
    let x : Ratio = get_or (t ∷ times) j d in
    le-leb _ _ (at_most_trans t x at (first_least t times rising j d lt) (leb-true _ _ is))
rising_parts (t ∷ times) at rising (suc i) zero d le lt is = absurd (omega (arith, le))
rising_parts (t ∷ times) at rising (suc i) (suc j) d le lt is = rising_parts times at (rest_rises t times rising) i j d (omega (arith, le)) (omega (arith, lt)) is

not_both : (b : Bool) → b ≡ true → b ≡ false → ⊥
not_both b good bad = cc

not_true : (b : Bool) → (b ≡ true → ⊥) → b ≡ false
not_true true isnt = absurd (isnt refl)
not_true false isnt = refl

-- a row not after an instant, behind which no row is or the next one is after it, is the row of the instant
pub row_found : (times : List Ratio) (at : Ratio) (row : ℕ) (d e : Ratio) → IsRising times → row < length times → at_most (get_or times row d) at ≡ true
    → (row + 1 < length times → at_most (get_or times (row + 1) e) at ≡ false) → row_of times (At at) ≡ row
row_found times at row d e rising within here next =
    let parts = rising_parts times at rising in
    let count : count_by (λ u. at_most u at) times ≡ row + 1 =
    count_first (λ u. at_most u at) times (row + 1) (omega (arith, within))
    (λ k f lt. parts k row f (omega (arith, lt)) within (ap (λ u. at_most u at) (get_or_default times row f d within) ∙ here))
    (λ k f le lt.
    let inside : row + 1 < length times = omega (arith, le, lt) in
    not_true _ (λ is. not_both _ (ap (λ u. at_most u at) (get_or_default times (row + 1) e f inside) ∙ parts (row + 1) k f le lt is) (next inside)))
    in
    omega (arith, count)
