-- Least common denominators, one number after another.
use Rattle.std.proofs.Common.{◌≡◌, sym, subst, ℕ, ◌*◌, ◌^◌, ◌<◌, ◌≤◌, ◌↔◌, List, [], ◌∷◌, ◌++◌, Option, Some, None, MatchOption, arith, mul-pos}
use Rattle.std.specs.Int.{◌∣◌}
use Rattle.std.proofs.Math.Nat.{le_of_dvd, dvd_trans, pos_of_dvd_of_pos, one-dvd, dvd-mul_left, dvd-mul_right}
use Rattle.std.proofs.lemmas.List.{append_assoc}
use Rattle.rational_time.specs.Multiple.{IsLcm, AllDivide, HasMultipleBelow}
use Rattle.sub_clock_solve.specs.Grain.{IsGrain}

all_further : (ns : List ℕ) (m n : ℕ) → m ∣ n → AllDivide ns m → AllDivide ns n
all_further [] m n d h = h
all_further (k ∷ ks) m n d h = (dvd_trans k h.0 d, all_further ks m n d h.1)

all_and : (ns : List ℕ) (k m : ℕ) → AllDivide ns m → k ∣ m → AllDivide (ns ++ k ∷ []) m
all_and [] k m h d = (d, h)
all_and (n ∷ ns) k m h d = (h.0, all_and ns k m h.1 d)

and_all : (ns : List ℕ) (k m : ℕ) → AllDivide (ns ++ k ∷ []) m → AllDivide ns m × (k ∣ m)
and_all [] k m h = (h.1, h.0)
and_all (n ∷ ns) k m h = let r = and_all ns k m h.1 in ((h.0, r.0), r.1)

-- one number more
pub grain_more : (ns : List ℕ) (grain k m : ℕ) → IsGrain ns grain → IsLcm grain k m → 0 < m → IsGrain (ns ++ k ∷ []) m
grain_more ns grain k m g l pos = record {
  positive = pos;
  divided = all_and ns k m (all_further ns grain m l.first g.divided) l.second;
  least = λ n h. let r = and_all ns k n h in l.least n (g.least n r.0) r.1;
}

-- a common multiple below a limit is there exactly where the least one is below it
pub grain_below : (limit : ℕ) (ns : List ℕ) (m : ℕ) → IsGrain ns m → HasMultipleBelow limit ns ↔ (m < limit)
grain_below limit ns m g = (
  λ h. let le : m ≤ h.multiple = le_of_dvd h.positive (g.least h.multiple h.divided) in let small = h.below in omega (arith, le, small),
  λ h. record { multiple = m; positive = g.positive; below = h; divided = g.divided },
)

all_first : (ns ms : List ℕ) (m : ℕ) → AllDivide (ns ++ ms) m → AllDivide ns m
all_first [] ms m h = tt
all_first (n ∷ ns) ms m h = (h.0, all_first ns ms m h.1)

-- fewer numbers have a multiple below the limit too
pub fewer_below : (limit : ℕ) (ns ms : List ℕ) → HasMultipleBelow limit (ns ++ ms) → HasMultipleBelow limit ns
fewer_below limit ns ms h = record { multiple = h.multiple; positive = h.positive; below = h.below; divided = all_first ns ms h.multiple h.divided }

pub grain_none : IsGrain [] 1
grain_none = record { positive = omega arith; divided = tt; least = λ n h. one-dvd n }

pub grain_has : (ns : List ℕ) (m : ℕ) → IsGrain ns m → m < 2 ^ 40 → HasMultipleBelow (2 ^ 40) ns
grain_has ns m g lt = (grain_below (2 ^ 40) ns m g).1 lt

-- two numbers more
pub grain_two : (ns : List ℕ) (grain k m l n : ℕ) → IsGrain ns grain → IsLcm grain k m → 0 < m → IsLcm m l n → 0 < n → IsGrain (ns ++ k ∷ l ∷ []) n
grain_two ns grain k m l n g first p second q =
    subst (λ ks. IsGrain ks n) (append_assoc ns (k ∷ []) (l ∷ [])) (grain_more (ns ++ k ∷ []) m l n (grain_more ns grain k m g first p) second q)

-- the least common multiple is above 0
pub lcm_positive : (a b m : ℕ) → 0 < a → 0 < b → IsLcm a b m → 0 < m
lcm_positive a b m p q l = pos_of_dvd_of_pos (l.least (a * b) (dvd-mul_right a b) (dvd-mul_left b a)) (mul-pos p q)

split_two : (ns : List ℕ) (k l : ℕ) → ns ++ k ∷ l ∷ [] ≡ (ns ++ k ∷ []) ++ l ∷ []
split_two ns k l = sym (append_assoc ns (k ∷ []) (l ∷ []))

-- the first of two more numbers reaches the limit, or the second does
pub past_first : (ns : List ℕ) (grain k l m : ℕ) → 0 < grain → 0 < k → IsGrain ns grain → IsLcm grain k m → 2 ^ 40 ≤ m → HasMultipleBelow (2 ^ 40) (ns ++ k ∷ l ∷ []) → ⊥
past_first ns grain k l m p q g lcm past h =
    let fewer = fewer_below (2 ^ 40) (ns ++ k ∷ []) (l ∷ []) (subst (λ l. HasMultipleBelow (2 ^ 40) l) (split_two ns k l) h) in
    let small : m < 2 ^ 40 = (grain_below (2 ^ 40) (ns ++ k ∷ []) m (grain_more ns grain k m g lcm (lcm_positive grain k m p q lcm))).0 fewer in
    absurd (omega (arith, small, past))

pub past_second : (ns : List ℕ) (grain k l m n : ℕ) → 0 < grain → 0 < k → 0 < l → IsGrain ns grain → IsLcm grain k m → IsLcm m l n → 2 ^ 40 ≤ n → HasMultipleBelow (2 ^ 40) (ns ++ k ∷ l ∷ []) → ⊥
past_second ns grain k l m n p q r g first second past h =
    let pos = lcm_positive grain k m p q first in
    let small : n < 2 ^ 40 = (grain_below (2 ^ 40) (ns ++ k ∷ l ∷ []) n (grain_two ns grain k m l n g first pos second (lcm_positive m l n pos r second))).0 h in
    absurd (omega (arith, small, past))

pub grain_both : (ns : List ℕ) (grain k l m n : ℕ) → 0 < grain → 0 < k → 0 < l → IsGrain ns grain → IsLcm grain k m → IsLcm m l n → IsGrain (ns ++ k ∷ l ∷ []) n
grain_both ns grain k l m n p q r g first second =
    let pos = lcm_positive grain k m p q first in
    grain_two ns grain k m l n g first pos second (lcm_positive m l n pos r second)

-- a clock in seconds more
pub two_more : (ns : List ℕ) (grain k l m : ℕ) (o : Option ℕ) → 0 < grain → 0 < k → 0 < l → IsGrain ns grain → IsLcm grain k m
    → MatchOption o ((n : ℕ) × IsLcm m l n × (2 ^ 40 ≤ n)) (λ n. IsLcm m l n × (n < 2 ^ 40))
    → MatchOption o (HasMultipleBelow (2 ^ 40) (ns ++ k ∷ l ∷ []) → ⊥) (λ n. IsGrain (ns ++ k ∷ l ∷ []) n × (n < 2 ^ 40))
two_more ns grain k l m None p q r g first (n, second, past) = past_second ns grain k l m n p q r g first second past
two_more ns grain k l m (Some n) p q r g first (second, lt) = (grain_both ns grain k l m n p q r g first second, lt)
