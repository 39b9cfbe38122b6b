-- Products above 0.
use Rattle.std.proofs.Common.{ℕ, ◌*◌, ◌<◌, arith}
use Rattle.std.proofs.Math.Nat.{mul-lt-mul_of_pos_left}

pub product_positive : (a b : ℕ) → 0 < a → 0 < b → 0 < a * b
product_positive a b p q = omega (arith, mul-lt-mul_of_pos_left {m = 0} {n = b} {k = a} q p)
