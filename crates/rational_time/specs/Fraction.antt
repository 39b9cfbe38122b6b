-- Fractions as pairs of whole numbers, compared by cross products, and the ticks of a clock.
use Rattle.std.specs.Prelude.{◌≡◌, ℕ, ◌+◌, ◌*◌, ◌^◌, ◌<◌, ◌≤◌, ◌⊎◌, ◌++◌, List, Bool, nat_le, ◌==◌, if◌then◌else◌, decimal, codes}
use Rattle.std.specs.Int.{IsGcd}
use Rattle.rational_time.specs.declared.ratio.Ratio.{Ratio}

-- no stop, and no instant of a table, reaches so many seconds
abbrev pub second_limit : ℕ
second_limit = 2 ^ 20

-- two fractions have one value
abbrev pub Same : Ratio → Ratio → Type 0
Same a b = a.num * b.den ≡ b.num * a.den

-- a is less than b
abbrev pub Below : Ratio → Ratio → Type 0
Below a b = a.num * b.den < b.num * a.den

-- a is not above b
abbrev pub AtMost : Ratio → Ratio → Type 0
AtMost a b = a.num * b.den ≤ b.num * a.den

-- the test whether a is not above b
abbrev pub at_most : Ratio → Ratio → Bool
at_most a b = nat_le (a.num * b.den) (b.num * a.den)

-- the value of r is n/d
abbrev pub IsFraction : Ratio → ℕ → ℕ → Type 0
IsFraction r n d = r.num * d ≡ n * r.den

-- both parts are below a limit
abbrev pub ArePartsBelow : ℕ → Ratio → Type 0
ArePartsBelow limit a = (a.num < limit) × (a.den < limit)

-- num/den is n/d in lowest terms
pub record IsLowest (num den n d : ℕ) : Type 0 where
  pub positive : 0 < den
  pub same : num * d ≡ n * den
  pub lowest : IsGcd num den 1

-- n/d in lowest terms has a numerator or a denominator that reaches its limit
abbrev pub Exceeds : ℕ → ℕ → ℕ → ℕ → Type 0
Exceeds num_limit den_limit n d =
    (num : ℕ) × (den : ℕ) × IsLowest num den n d × ((num_limit ≤ num) ⊎ (den_limit ≤ den))

-- n/d in lowest terms has a part that does not fit 64 bits
abbrev pub DoesNotFit : ℕ → ℕ → Type 0
DoesNotFit n d = Exceeds (2 ^ 64) (2 ^ 64) n d

-- the greatest whole number not above n/d
abbrev pub IsFloor : ℕ → ℕ → ℕ → Type 0
IsFloor n d floor = (floor * d ≤ n) × (n < (floor + 1) * d)

-- the instant t is tick k, start + k*period
abbrev pub IsTick : Ratio → Ratio → ℕ → Ratio → Type 0
IsTick period start k t =
    t.num * (start.den * period.den) ≡ (start.num * period.den + k * period.num * start.den) * t.den

-- tick k, start + k*period, is not above stop
abbrev pub IsTickWithin : Ratio → Ratio → ℕ → Ratio → Type 0
IsTickWithin period start k stop =
    (start.num * period.den + k * period.num * start.den) * stop.den ≤ stop.num * (start.den * period.den)

-- tick i of the clock p, s is at the instant of tick j of the clock q, r: s + i*p = r + j*q
abbrev pub IsSameTick : Ratio → Ratio → ℕ → Ratio → Ratio → ℕ → Type 0
IsSameTick p s i q r j =
    (s.num * p.den + i * p.num * s.den) * (r.den * q.den) ≡ (r.num * q.den + j * q.num * r.den) * (s.den * p.den)

-- the printed form of an instant: n where the denominator is 1, else n/d
abbrev pub instant_text : Ratio → List ℕ
instant_text t = if t.den == 1 then decimal t.num else decimal t.num ++ codes "/" ++ decimal t.den
