-- How fine a clock is does not depend on the fractions that say it.
use Rattle.std.proofs.Common.{◌≡◌, ap, ℕ, ◌+◌, ◌-◌, ◌*◌, ◌<◌, ◌≤◌, inl, inr, ⊎_elim, arith, le_of_mul-le-mul_right, le_of_lt}
use Rattle.std.specs.Int.{abs_diff}
use Rattle.std.proofs.Math.Nat.{eq_of_mul-eq-mul_right}
use Rattle.std.proofs.lemmas.Bool.{cases_lt}
use Rattle.clock_terms.specs.Position.{Position, IsAt, IsPastLimit, Progression, IsProper, AreSame, IsTooFine}

-- two positions that are one have one size
size_where : (am al bm bl ad bd : ℕ) → 0 < ad → al ≤ am → am * bd + bl * ad ≡ bm * ad + al * bd → abs_diff am al * bd ≡ abs_diff bm bl * ad
size_where am al bm bl ad bd p le e =
    let w = am - al in
    let am_is : am ≡ w + al = omega (arith, le) in
    let more : w * bd + bl * ad ≡ bm * ad = omega (arith, e, ap (λ z. z * bd) am_is) in
    let le2 : bl ≤ bm = le_of_mul-le-mul_right {k = ad} (omega (arith, more)) p in
    let v = bm - bl in
    let bm_is : bm ≡ v + bl = omega (arith, le2) in
    let d1 : abs_diff am al ≡ w = omega (arith, le) in
    let d2 : abs_diff bm bl ≡ v = omega (arith, le2) in
    rw (d1, d2) (omega (arith, more, ap (λ z. z * ad) bm_is))

swap_diff : (a b : ℕ) → abs_diff a b ≡ abs_diff b a
swap_diff a b = omega arith

same_size : (a b : Position) → 0 < a.den → IsAt a b → abs_diff a.more a.less * b.den ≡ abs_diff b.more b.less * a.den
same_size a b p e = ⊎_elim
    (λ lt. rw (swap_diff a.more a.less, swap_diff b.more b.less) (size_where a.less a.more b.less b.more a.den b.den p (le_of_lt lt) (omega (arith, e))))
    (λ le. size_where a.more a.less b.more b.less a.den b.den p le e)
    (cases_lt a.more a.less)

pub past_same : (limit : ℕ) (a b : Position) → 0 < a.den → IsAt a b → IsPastLimit limit a → IsPastLimit limit b
past_same limit a b p e (num, den, low, over) =
    let size = same_size a b p e in (
      num,
      den,
      record {
        positive = low.positive;
        same = eq_of_mul-eq-mul_right a.den p (num * b.den) (abs_diff b.more b.less * den) (omega (arith, ap (λ z. z * b.den) low.same, ap (λ z. z * den) size));
        lowest = low.lowest;
      },
      over,
    )

-- so a clock is too fine whatever fractions say it
pub too_fine_same : (limit : ℕ) (a b : Progression) → IsProper a → AreSame a b → IsTooFine limit a → IsTooFine limit b
too_fine_same limit a b p s h = ⊎_elim
    (λ x. inl (past_same limit a.period b.period p.period s.period x))
    (λ x. inr (past_same limit a.start b.start p.start s.start x)) h
