-- Whole parts of one fraction, written in two ways.
use Rattle.std.proofs.Common.{◌≡◌, ap, ℕ, zero, suc, ◌+◌, ◌*◌, ◌/◌, ◌<◌, ◌≤◌, arith, mul-le-mul_right, mul-lt-mul_of_pos_right, le_of_mul-le-mul_right, lt_of_mul-lt-mul_right}
use Rattle.std.proofs.Math.Nat.{div-eq_of_lt-le}
use Rattle.rational_time.specs.Fraction.{IsFloor}

-- what a product is above has no factor 0
factor_pos : (n f den : ℕ) → n < (f + 1) * den → 0 < den
factor_pos n f zero above = absurd (omega (arith, above))
factor_pos n f (suc den) above = omega arith

-- the floor of num*k/den is that of n*k/d, where n/d is num/den
pub floor_same : (n d num den k floor : ℕ) → 0 < d → n * den ≡ num * d → IsFloor (num * k) den floor → n * k / d ≡ floor
floor_same n d num den k floor pos same is = div-eq_of_lt-le {k = floor} d low high
  where
    times_k : n * den * k ≡ num * d * k
    times_k = ap (λ z. z * k) same

    low : floor * d ≤ n * k
    low = le_of_mul-le-mul_right {k = den} (let h = mul-le-mul_right d is.0 in omega (arith, h, times_k)) (factor_pos _ _ _ is.1)

    high : n * k < (floor + 1) * d
    high = lt_of_mul-lt-mul_right den (let h = mul-lt-mul_of_pos_right is.1 pos in omega (arith, h, times_k))
