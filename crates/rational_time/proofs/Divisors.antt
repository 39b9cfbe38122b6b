-- Divisors, Bezout's equation over the natural numbers, and numbers without a common divisor.
use Rattle.std.proofs.Common.{◌≡◌, refl, subst, ap, ℕ, zero, suc, ◌+◌, ◌*◌, ◌/◌, ◌%◌, ◌<◌, ◌≤◌, arith, mod-lt, div-add-mod', zero-lt-suc}
use Rattle.std.specs.Int.{IsGcd, ◌∣◌}
use Rattle.std.proofs.lemmas.Nat.Gcd.{IsGcd-from_zero, same_from_IsGcd}
use Rattle.std.proofs.Math.Nat.{dvd-mod_iff, dvd-mul_right, dvd-mul_left_of_dvd, dvd-add_iff_right}

-- a multiple is divided
pub dvd_from : (d x n : ℕ) → d * x ≡ n → d ∣ n
dvd_from d x n e = subst (λ m. d ∣ m) e (dvd-mul_right d x)

-- one step of Euclid's algorithm forwards
pub IsGcd-mod : (a b g : ℕ) → IsGcd a b g → IsGcd b (a % b) g
IsGcd-mod a b g h = (h.1, (dvd-mod_iff g h.1).1 h.0, λ d p q. h.2 d ((dvd-mod_iff d p).0 q) p)

turned : (a b g u v : ℕ) → 0 < a → 0 < b → u * b ≡ v * a + g → (x : ℕ) × (y : ℕ) × (x * a ≡ y * b + g)
turned zero b g u v p q e = absurd (omega arith)
turned (suc a) zero g u v p q e = absurd (omega arith)
turned (suc a) (suc b) g u v p q e = (u + (u + v) * b, v + (u + v) * a, omega (arith, e))

carried : (a b q r g x y : ℕ) → q * b + r ≡ a → x * b ≡ y * r + g → (x + y * q) * b ≡ y * a + g
carried a b q r g x y e h = omega (arith, h, ap (λ z. y * z) e)

bezout_by : (fuel a b g : ℕ) → 0 < a → b ≤ fuel → IsGcd a b g → (x : ℕ) × (y : ℕ) × (x * a ≡ y * b + g)
bezout_by fuel a zero g p le h = (1, 0, omega (arith, same_from_IsGcd a 0 g a h (IsGcd-from_zero a 0 refl)))
bezout_by zero a (suc b) g p le h = absurd (omega arith)
bezout_by (suc fuel) a (suc b) g p le h =
    let some : 0 < suc b = zero-lt-suc b in
    let smaller : a % suc b < suc b = mod-lt a some in
    let back = bezout_by fuel (suc b) (a % suc b) g some (omega arith) (IsGcd-mod a (suc b) g h) in
    turned a (suc b) g (back.0 + back.1 * (a / suc b)) back.1 p some
    (carried a (suc b) (a / suc b) (a % suc b) g back.0 back.1 (div-add-mod' a (suc b)) back.2)

-- Bezout: a multiple of a is a multiple of b and the greatest common divisor
pub bezout : (a b g : ℕ) → 0 < a → IsGcd a b g → (x : ℕ) × (y : ℕ) × (x * a ≡ y * b + g)
bezout a b g p h = bezout_by b a b g p (omega arith) h

-- Euclid: what divides a product and has no divisor with one factor divides the other
pub dvd_of_coprime : (a b x : ℕ) → 0 < a → IsGcd a b 1 → a ∣ b * x → a ∣ x
dvd_of_coprime a b x p h d =
    let k = bezout a b 1 p h in
    let left : a ∣ k.1 * (b * x) = dvd-mul_left_of_dvd a d k.1 in
    let whole : a ∣ k.1 * (b * x) + x = dvd_from a (k.0 * x) (k.1 * (b * x) + x) (omega (arith, ap (λ z. z * x) k.2)) in
    (dvd-add_iff_right a left).1 whole
