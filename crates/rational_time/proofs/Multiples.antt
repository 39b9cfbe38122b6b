-- Least common multiples.
use Rattle.std.proofs.Common.{◌≡◌, refl, sym, ◌∙◌, ap, ℕ, ◌*◌, ◌/◌, ◌<◌, ◌≤◌, ◌^◌, ◌↔◌, Option, Some, None, IfSome, IsNone, IsSome, SomeIff, arith, mul-pos, [], ◌∷◌}
use Rattle.std.specs.Int.{IsGcd, ◌∣◌}
use Rattle.std.proofs.lemmas.Nat.Gcd.{IsGcd-swap, dvd_antisymm, le_of_dvd}
use Rattle.std.proofs.Math.Nat.{dvd-mul_left, dvd-mul_right, mul-div_cancel', div-mul_cancel, eq_of_mul-eq-mul_right, pos_of_dvd_of_pos}
use Rattle.rational_time.specs.Multiple.{IsLcm, HasMultipleBelow}
use Rattle.rational_time.proofs.Divisors.{dvd_from, dvd_of_coprime}
use Rattle.rational_time.proofs.Fractions.{divisor_positive, quotient_positive, coprime_quotients}

-- both factors by their greatest common divisor: a*x = b*y leaves p*x = q*y
cancelled : (a b g p q x y : ℕ) → 0 < g → p * g ≡ a → q * g ≡ b → a * x ≡ b * y → p * x ≡ q * y
cancelled a b g p q x y h d e f = eq_of_mul-eq-mul_right g h (p * x) (q * y) (omega (arith, f, ap (λ z. z * x) d, ap (λ z. z * y) e))

-- a by the greatest common divisor, times b, is the least common multiple
pub IsLcm-product : (a b g : ℕ) → 0 < a → 0 < b → IsGcd a b g → IsLcm a b (a / g * b)
IsLcm-product a b g pa pb h =
    let left : a / g * g ≡ a = div-mul_cancel g h.0 in
    let right : b / g * g ≡ b = div-mul_cancel g h.1 in record {
      first = dvd_from a (b / g) (a / g * b) (omega (arith, ap (λ z. z * (b / g)) left, ap (λ z. a / g * z) right));
      second = dvd-mul_left b (a / g);
      least = λ n da db.
          let x : a * (n / a) ≡ n = mul-div_cancel' a da in
          let y : b * (n / b) ≡ n = mul-div_cancel' b db in
          let even : a / g * (n / a) ≡ b / g * (n / b) = cancelled a b g (a / g) (b / g) (n / a) (n / b) (divisor_positive a b g pb h) left right (x ∙ sym y) in
          let inner : b / g ∣ n / a = dvd_of_coprime (b / g) (a / g) (n / a) (quotient_positive a b g pb h) (IsGcd-swap (a / g) (b / g) 1 (coprime_quotients a b g pb h))
          (dvd_from (b / g) (n / b) (a / g * (n / a)) (sym even)) in
          let z : b / g * (n / a / (b / g)) ≡ n / a = mul-div_cancel' (b / g) inner in
          dvd_from (a / g * b) (n / a / (b / g)) n (spread a b g (a / g) (b / g) (n / a) (n / a / (b / g)) n left right z x);
    }
  where
    spread : (a b g p q x z n : ℕ) → p * g ≡ a → q * g ≡ b → q * z ≡ x → a * x ≡ n → p * b * z ≡ n
    spread a b g p q x z n d e f k = omega (arith, ap (λ t. p * t * z) e, ap (λ t. t * x) d, ap (λ t. p * g * t) f, k)

-- there is one least common multiple
pub IsLcm-unique : (a b m n : ℕ) → IsLcm a b m → IsLcm a b n → m ≡ n
IsLcm-unique a b m n h k = dvd_antisymm (h.least n k.first k.second) (k.least m h.first h.second)

-- it is not 0
pub IsLcm-positive : (a b m : ℕ) → 0 < a → 0 < b → IsLcm a b m → 0 < m
IsLcm-positive a b m p q h = pos_of_dvd_of_pos (h.least (a * b) (dvd-mul_right a b) (dvd-mul_left b a)) (mul-pos p q)

-- the clauses of `lcm` where m is the least common multiple
pub lcm_multiple : (a b m : ℕ) (r : Option ℕ) → IsLcm a b m → SomeIff r (m < 2 ^ 64) m → IfSome r (λ n. IsLcm a b n)
lcm_multiple a b m None l h = tt
lcm_multiple a b m (Some n) l h = rw h.1 l

pub lcm_none : (a b m : ℕ) (r : Option ℕ) → IsLcm a b m → SomeIff r (m < 2 ^ 64) m → IsNone r ↔ ((n : ℕ) × IsLcm a b n × (2 ^ 64 ≤ n))
lcm_none a b m None l h = (λ _. (m, l, omega (arith, h)), λ _. refl)
lcm_none a b m (Some n) l h = (λ e. absurd cc, λ (k, j, big). absurd (omega (arith, h.0, IsLcm-unique a b m k l j)))

-- numbers with a multiple below 2^40 have a least one that fits
pub lcm_fits : (a b : ℕ) (r : Option ℕ) → HasMultipleBelow (2 ^ 40) (a ∷ b ∷ []) → IsNone r ↔ ((n : ℕ) × IsLcm a b n × (2 ^ 64 ≤ n)) → IsSome r
lcm_fits a b (Some n) h k = refl
lcm_fits a b None h k =
    let found = k.0 refl in
    absurd (omega (arith, found.2, h.below, le_of_dvd h.positive (found.1.least h.multiple h.divided.0 h.divided.1.0)))

-- the least common multiple of four numbers is not 0
pub common_positive : (a b d e m n l : ℕ) → 0 < a → 0 < b → 0 < d → 0 < e → IsLcm a b m → IsLcm d e n → IsLcm m n l → 0 < l
common_positive a b d e m n l p q r s h k both = IsLcm-positive m n l (IsLcm-positive a b m p q h) (IsLcm-positive d e n r s k) both
