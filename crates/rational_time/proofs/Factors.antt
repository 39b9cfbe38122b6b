-- Twos and fives that are taken out of numbers, and numbers that have none of them.
use Rattle.std.proofs.Common.{◌≡◌, refl, sym, ◌∙◌, subst, ap, ℕ, zero, suc, ◌*◌, ◌/◌, ◌%◌, ◌^◌, ◌<◌, ◌≤◌, arith, pow-suc, mod-lt, div-add-mod', lit<}
use Rattle.std.specs.Int.{IsGcd, ◌∣◌, bit_at, w64, trailing_zeros}
use Rattle.std.proofs.Math.Nat.{one-dvd, pow-zero, pos_of_dvd_of_pos, eq_of_mul-eq-mul_right}
use Rattle.std.proofs.lemmas.Nat.{shl-shr}
use Rattle.std.proofs.lemmas.Nat.Bits.{bit_at-trailing_zeros}
use Rattle.std.proofs.lemmas.Nat.Gcd.{IsGcd-from_mod, IsGcd-from_zero, dvd_trans}
use Rattle.rational_time.proofs.Divisors.{dvd_of_coprime}

doubled : (q r p s n : ℕ) → q * 2 ≡ r → r * p ≡ n → s ≡ p * 2 → q * s ≡ n
doubled q r p s n e f g = omega (arith, ap (λ z. z * p) e, f, ap (λ z. q * z) g)

-- low bits that are all 0 are whole twos
low_zeros : (n k : ℕ) → ((i : ℕ) → i < k → bit_at n i ≡ 0) → (q : ℕ) × (q * 2 ^ k ≡ n)
low_zeros n zero h = (n, omega (arith, ap (λ z. n * z) (pow-zero 2)))
low_zeros n (suc k) h =
    let rest = low_zeros n k (λ i below. h i (omega arith)) in
    let quotient : n / 2 ^ k ≡ rest.0 = ap (λ z. z / 2 ^ k) (sym rest.1) ∙ shl-shr rest.0 k in
    let even : rest.0 % 2 ≡ 0 = subst (λ z. z % 2 ≡ 0) quotient (h k (omega arith)) in
    let halves : rest.0 / 2 * 2 ≡ rest.0 = omega (arith, div-add-mod' rest.0 2, even) in
    (rest.0 / 2, doubled (rest.0 / 2) rest.0 (2 ^ k) (2 ^ suc k) n halves rest.1 (omega (arith, pow-suc 2 k)))

-- a shift by no more than the zeros at the end loses nothing
pub shifted : (n k : ℕ) → n < 2 ^ 64 → k ≤ trailing_zeros w64 n → n / 2 ^ k * 2 ^ k ≡ n
shifted zero k fits le = rw (zero_shifted k) (omega arith)
  where
    zero_shifted : (k : ℕ) → zero / 2 ^ k ≡ zero
    zero_shifted k = ap (λ z. z / 2 ^ k) (let e : zero ≡ zero * 2 ^ k = omega arith in e) ∙ shl-shr zero k
shifted (suc n) k fits le =
    let place = bit_at-trailing_zeros w64 (suc n) (omega arith) fits in
    let whole = low_zeros (suc n) k (λ i below. place.2 i (omega arith)) in
    let quotient : suc n / 2 ^ k ≡ whole.0 = ap (λ z. z / 2 ^ k) (sym whole.1) ∙ shl-shr whole.0 k in
    rw quotient whole.1

-- a factor above 0
pub factor_positive : (q p n : ℕ) → q * p ≡ n → 0 < n → 0 < q
factor_positive zero p n e h = absurd (omega (arith, e))
factor_positive (suc q) p n e h = omega arith

-- two numbers by one factor have the ratio of the two
pub same_ratio : (a b p x y : ℕ) → a * p ≡ x → b * p ≡ y → a * y ≡ x * b
same_ratio a b p x y e f = omega (arith, ap (λ z. a * z) f, ap (λ z. z * b) e)

-- a factor that has no common divisor with n
coprime_times : (n x p : ℕ) → 0 < n → IsGcd n p 1 → IsGcd n x 1 → IsGcd n (x * p) 1
coprime_times n x p pos h k = (
  one-dvd n,
  one-dvd (x * p),
  λ d dn dx.
      let turned : d ∣ p * x = subst (λ z. d ∣ z) (let e : x * p ≡ p * x = omega arith in e) dx in
      let apart : IsGcd d p 1 = (one-dvd d, one-dvd p, λ e ed ep. h.2 e (dvd_trans e ed dn) ep) in
      k.2 d dn (dvd_of_coprime d p x (pos_of_dvd_of_pos dn pos) apart turned),
)

-- nor has a power of it
pub coprime_powers : (n x p k : ℕ) → 0 < n → IsGcd n p 1 → IsGcd n x 1 → IsGcd n (x * p ^ k) 1
coprime_powers n x p zero pos h g = subst (λ z. IsGcd n z 1) (let e : x ≡ x * p ^ zero = omega (arith, ap (λ z. x * z) (pow-zero p)) in e) g
coprime_powers n x p (suc k) pos h g =
    subst (λ z. IsGcd n z 1) (let e : x * p ^ k * p ≡ x * p ^ suc k = omega (arith, ap (λ z. x * z) (pow-suc p k)) in e)
    (coprime_times n (x * p ^ k) p pos h (coprime_powers n x p k pos h g))

pub coprime_one : (n : ℕ) → IsGcd n 1 1
coprime_one n = (one-dvd n, one-dvd 1, λ d dn d1. d1)

positive_rest : (n p : ℕ) → (n % p ≡ 0 → ⊥) → 0 % p ≡ 0 → 0 < n
positive_rest zero p h e = absurd (h e)
positive_rest (suc n) p h e = omega arith

-- an odd number and the twos of another
rest_of_two : (r : ℕ) → r < 2 → (r ≡ 0 → ⊥) → IsGcd 2 r 1
rest_of_two zero h e = absurd (e refl)
rest_of_two (suc zero) h e = IsGcd-from_mod 2 1 1 (IsGcd-from_zero 1 0 refl)
rest_of_two (suc (suc r)) h e = absurd (omega arith)

pub apart_of_twos : (n d q : ℕ) → (n % 2 ≡ 0 → ⊥) → (k : ℕ) → q * 2 ^ k ≡ d → IsGcd n q 1 → IsGcd n d 1
apart_of_twos n d q odd k e h =
    subst (λ z. IsGcd n z 1) e
    (coprime_powers n q 2 k (positive_rest n 2 odd refl) (IsGcd-from_mod n 2 1 (rest_of_two (n % 2) (mod-lt n (lit< tt)) odd)) h)

-- a number without fives and the fives of another
rest_of_five : (r : ℕ) → r < 5 → (r ≡ 0 → ⊥) → IsGcd 5 r 1
rest_of_five zero h e = absurd (e refl)
rest_of_five (suc zero) h e = IsGcd-from_mod 5 1 1 (IsGcd-from_zero 1 0 refl)
rest_of_five (suc (suc zero)) h e = IsGcd-from_mod 5 2 1 (IsGcd-from_mod 2 1 1 (IsGcd-from_zero 1 0 refl))
rest_of_five (suc (suc (suc zero))) h e = IsGcd-from_mod 5 3 1 (IsGcd-from_mod 3 2 1 (IsGcd-from_mod 2 1 1 (IsGcd-from_zero 1 0 refl)))
rest_of_five (suc (suc (suc (suc zero)))) h e = IsGcd-from_mod 5 4 1 (IsGcd-from_mod 4 1 1 (IsGcd-from_zero 1 0 refl))
rest_of_five (suc (suc (suc (suc (suc r))))) h e = absurd (omega arith)

pub apart_of_five : (n q : ℕ) → (n % 5 ≡ 0 → ⊥) → IsGcd n q 1 → IsGcd n (q * 5) 1
apart_of_five n q h g = coprime_times n q 5 (positive_rest n 5 h refl) (IsGcd-from_mod n 5 1 (rest_of_five (n % 5) (mod-lt n (lit< tt)) h)) g

-- a multiple of five is five times its quotient
pub fives : (n : ℕ) → n % 5 ≡ 0 → n / 5 * 5 ≡ n
fives n h = omega (arith, div-add-mod' n 5, h)

-- both parts without a factor keep their ratio
pub same_without : (a b p x y n d : ℕ) → a * p ≡ x → b * p ≡ y → 0 < p → x * d ≡ n * y → a * d ≡ n * b
same_without a b p x y n d e f pos h = eq_of_mul-eq-mul_right p pos (a * d) (n * b) (omega (arith, h, ap (λ z. z * d) e, ap (λ z. n * z) f))
