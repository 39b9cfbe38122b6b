-- The order of fractions by cross products, and fractions of one value.
use Rattle.std.proofs.Common.{◌≡◌, ap, ℕ, ◌*◌, ◌<◌, ◌≤◌, arith, mul-le-mul_right, mul-lt-mul_of_pos_right, le_of_mul-le-mul_right, lt_of_mul-lt-mul_right}
use Rattle.std.proofs.Math.Nat.{eq_of_mul-eq-mul_right}
use Rattle.rational_time.specs.declared.ratio.Ratio.{Ratio}
use Rattle.rational_time.specs.Fraction.{Same}
use Rattle.rational_time.proofs.Fractions.{IsGcd-ratio, lowest_same}

-- a/b = c/d = e/f
pub cross_same_trans : (a b c d e f : ℕ) → 0 < d → a * d ≡ c * b → c * f ≡ e * d → a * f ≡ e * b
cross_same_trans a b c d e f pos h k = eq_of_mul-eq-mul_right d pos (a * f) (e * b) (omega (arith, ap (λ z. z * f) h, ap (λ z. z * b) k))

-- a/b ≤ c/d ≤ e/f
pub cross_le_trans : (a b c d e f : ℕ) → 0 < d → a * d ≤ c * b → c * f ≤ e * d → a * f ≤ e * b
cross_le_trans a b c d e f pos h k = le_of_mul-le-mul_right {k = d} (omega (arith, mul-le-mul_right f h, mul-le-mul_right b k)) pos

-- a/b < c/d ≤ e/f
pub cross_lt_le_trans : (a b c d e f : ℕ) → 0 < f → a * d < c * b → c * f ≤ e * d → a * f < e * b
cross_lt_le_trans a b c d e f pos h k = lt_of_mul-lt-mul_right d (omega (arith, mul-lt-mul_of_pos_right h pos, mul-le-mul_right b k))

-- a/b ≤ c/d < e/f
pub cross_le_lt_trans : (a b c d e f : ℕ) → 0 < b → a * d ≤ c * b → c * f < e * d → a * f < e * b
cross_le_lt_trans a b c d e f pos h k = lt_of_mul-lt-mul_right d (omega (arith, mul-le-mul_right f h, mul-lt-mul_of_pos_right k pos))

-- two ratios of one value have the same parts
pub same_parts : (a b : Ratio) → Same a b → (a.num ≡ b.num) × (a.den ≡ b.den)
same_parts a b h = lowest_same a.num a.den b.num b.den a.positive b.positive (IsGcd-ratio a) (IsGcd-ratio b) h
