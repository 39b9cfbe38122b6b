-- Floors of quotients and of products.
use Rattle.std.specs.Result.{OkIff, result_ok}
use Rattle.std.proofs.Math.Nat.{mul-mod_left, div-eq_of_eq-mul_left}
use Rattle.std.proofs.Common.{Result, Ok, Err, IsNone, ◌↔◌, ◌^◌, refl, sym, subst, ◌≡◌, ap, ℕ, ◌+◌, ◌*◌, ◌/◌, ◌%◌, ◌<◌, ◌≤◌, arith, mod-lt, div-add-mod', lt_of_mul-lt-mul_right, mul-le-mul_right}
use Rattle.rational_time.specs.Fraction.{IsFloor}

-- a quotient is a floor
pub IsFloor-div : (n d : ℕ) → 0 < d → IsFloor n d (n / d)
IsFloor-div n d p = (omega (arith, div-add-mod' n d), omega (arith, div-add-mod' n d, mod-lt n p))

split : (n d t q r : ℕ) → q * d + r ≡ n → q * t * d + r * t ≡ n * t
split n d t q r e = omega (arith, ap (λ z. z * t) e)

-- the floor of a product n*t/d from the quotient and the rest of n by d
pub IsFloor-product : (n d t f : ℕ) → 0 < d → f ≡ n % d * t / d → IsFloor (n * t) d (n / d * t + f)
IsFloor-product n d t f p e =
    let whole = split n d t (n / d) (n % d) (div-add-mod' n d) in
    let part = IsFloor-div (n % d * t) d p in
    (omega (arith, whole, part.0, ap (λ z. z * d) e), omega (arith, whole, part.1, ap (λ z. z * d) e))

-- a floor is below what the product stays below
pub floor_below : (n d f limit : ℕ) → IsFloor n d f → n < limit * d → f < limit
floor_below n d f limit h below = lt_of_mul-lt-mul_right d (omega (arith, h.0))

-- what is not above a quotient is not above its floor, and back
pub floor_bounds : (n d f x : ℕ) → 0 < d → IsFloor n d f → x * d ≤ n → x ≤ f
floor_bounds n d f x p h le =
    let less : x < f + 1 = lt_of_mul-lt-mul_right d (omega (arith, h.1)) in omega arith

pub floor_bounded : (n d f x : ℕ) → IsFloor n d f → x ≤ f → x * d ≤ n
floor_bounded n d f x h le = omega (arith, mul-le-mul_right d le, h.0)

-- a product that is no multiple of v is no number of units
pub no_units : (product v n : ℕ) → (product % v ≡ 0 → ⊥) → n * v ≡ product → ⊥
no_units product v n uneven e = uneven (subst (λ x. x % v ≡ 0) e (mul-mod_left n v))

-- the number of units of a multiple of v, where it fits
pub units_none : {E : Type 0} (product v : ℕ) (r : Result ℕ E) → 0 < v → product % v ≡ 0 → OkIff r (product / v < 2 ^ 64) (product / v) →
    IsNone (result_ok r) ↔ ((n : ℕ) → n * v ≡ product → 2 ^ 64 ≤ n)
units_none product v (Ok x) p even h = (λ e. absurd cc, λ large. absurd (omega (arith, h.0, large (product / v) (omega (arith, even, div-add-mod' product v)))))
units_none product v (Err e) p even h = (
  λ _ n e.
      let same : product / v ≡ n = div-eq_of_eq-mul_left {n = v} {m = product} {k = n} p (sym e) in
      let large : product / v < 2 ^ 64 → ⊥ = h in omega arith,
  λ _. refl,
)
