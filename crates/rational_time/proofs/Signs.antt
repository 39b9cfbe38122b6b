-- Sums of signed numbers.
use Rattle.std.proofs.Common.{ℤ, pos, neg_ℤ, ◌+ℤ◌, ◌≤ℤ◌, ◌^◌, FitsSigned, rules}
use Rattle.std.specs.Int.{w128}

-- the sum of two numbers of 120 bits fits 128 bits
pub sum_fits : (a b : ℤ) → neg_ℤ (pos (2 ^ 120)) ≤ℤ a → a ≤ℤ pos (2 ^ 120) → neg_ℤ (pos (2 ^ 120)) ≤ℤ b → b ≤ℤ pos (2 ^ 120) → FitsSigned w128 (a +ℤ b)
sum_fits a b p q r s = search rules
