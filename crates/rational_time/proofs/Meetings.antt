-- Where two clocks meet: two rising series of whole numbers share a number exactly where the greatest common divisor of their steps divides the distance of their firsts.
use Rattle.std.proofs.Common.{◌∙◌, ◌%◌, IsTrue, nat_eq, eq-eqb, eqb-true, ◌↔◌, ◌≡◌, sym, subst, ap, ℕ, zero, suc, ◌+◌, ◌-◌, ◌*◌, ◌/◌, ◌<◌, ◌≤◌, ⊎_elim, arith, mul-pos, le_of_lt}
use Rattle.std.specs.Int.{IsGcd, ◌∣◌, abs_diff}
use Rattle.std.proofs.lemmas.Nat.Gcd.{IsGcd-swap}
use Rattle.std.proofs.Math.Nat.{dvd_of_mod-eq-zero, mod-eq-zero_of_dvd, dvd-mul_left_of_dvd, dvd-add_iff_right, mul-div_cancel', eq_of_mul-eq-mul_right}
use Rattle.std.proofs.lemmas.Bool.{cases_lt}
use Rattle.rational_time.proofs.Divisors.{bezout}

-- a distance that a common divisor of the steps divides is made up by whole steps
ahead : (a b p q g : ℕ) → 0 < p → IsGcd p q g → a ≤ b → g ∣ b - a → (i : ℕ) × (j : ℕ) × (a + i * p ≡ b + j * q)
ahead a b p q g pos h le d =
    let k = bezout p q g pos h in
    let whole : g * ((b - a) / g) ≡ b - a = mul-div_cancel' g d in
    (k.0 * ((b - a) / g), k.1 * ((b - a) / g), omega (arith, le, whole, ap (λ z. z * ((b - a) / g)) k.2))

-- the series a + i*p and b + j*q share a number where the divisor divides their distance
pub shared : (a b p q g : ℕ) → 0 < p → 0 < q → IsGcd p q g → g ∣ abs_diff a b → (i : ℕ) × (j : ℕ) × (a + i * p ≡ b + j * q)
shared a b p q g pp pq h d = ⊎_elim
    (λ le. ahead a b p q g pp h (le_of_lt le) (subst (λ n. g ∣ n) (let e : abs_diff a b ≡ b - a = omega arith in e) d))
    (λ le. let m = ahead b a q p g pq (IsGcd-swap p q g h) le (subst (λ n. g ∣ n) (let e : abs_diff a b ≡ a - b = omega arith in e) d) in (m.1, m.0, sym m.2))
    (cases_lt a b)

apart : (a b p q g i j : ℕ) → IsGcd p q g → a ≤ b → a + i * p ≡ b + j * q → g ∣ b - a
apart a b p q g i j h le e =
    let sum : i * p ≡ j * q + (b - a) = omega (arith, le, e) in
    (dvd-add_iff_right g {m = j * q} {n = b - a} (dvd-mul_left_of_dvd g h.1 j)).1 (subst (λ n. g ∣ n) sum (dvd-mul_left_of_dvd g h.0 i))

-- and only there
pub distance_divided : (a b p q g i j : ℕ) → IsGcd p q g → a + i * p ≡ b + j * q → g ∣ abs_diff a b
distance_divided a b p q g i j h e = ⊎_elim
    (λ le. subst (λ n. g ∣ n) (let e : b - a ≡ abs_diff a b = omega arith in e) (apart a b p q g i j h (le_of_lt le) e))
    (λ le. subst (λ n. g ∣ n) (let e : a - b ≡ abs_diff a b = omega arith in e) (apart b a q p g j i (IsGcd-swap p q g h) le (sym e)))
    (cases_lt a b)

-- tick i of a clock in units of 1/l
in_units : (l sn sd pn pd a p i : ℕ) → a * sd ≡ sn * l → p * pd ≡ pn * l → (a + i * p) * (sd * pd) ≡ (sn * pd + i * pn * sd) * l
in_units l sn sd pn pd a p i e f = omega (arith, ap (λ z. z * pd) e, ap (λ z. i * sd * z) f)

-- two fractions x/d = m/l and y/e = n/l are the same exactly where m and n are
same_units : (l x d y e m n : ℕ) → 0 < l → 0 < d → 0 < e → m * d ≡ x * l → n * e ≡ y * l → x * e ≡ y * d → m ≡ n
same_units l x d y e m n pl pd pe h k s = eq_of_mul-eq-mul_right (d * e) (mul-pos pd pe) m n (omega (arith, ap (λ z. z * e) h, ap (λ z. z * d) k, ap (λ z. z * l) s))

units_same : (l x d y e m n : ℕ) → 0 < l → m * d ≡ x * l → n * e ≡ y * l → m ≡ n → x * e ≡ y * d
units_same l x d y e m n pl h k s = eq_of_mul-eq-mul_right l pl (x * e) (y * d) (omega (arith, ap (λ z. z * e) h, ap (λ z. z * d) k, ap (λ z. z * (d * e)) s))

-- ticks of two clocks are at one instant exactly where their numbers of units are the same
pub tick_units : (l sn sd pn pd a p i rn rd qn qd b q j : ℕ) → 0 < l → 0 < sd → 0 < pd → 0 < rd → 0 < qd →
    a * sd ≡ sn * l → p * pd ≡ pn * l → b * rd ≡ rn * l → q * qd ≡ qn * l →
    (sn * pd + i * pn * sd) * (rd * qd) ≡ (rn * qd + j * qn * rd) * (sd * pd) → a + i * p ≡ b + j * q
tick_units l sn sd pn pd a p i rn rd qn qd b q j pl psd ppd prd pqd ea ep eb eq h =
    same_units l (sn * pd + i * pn * sd) (sd * pd) (rn * qd + j * qn * rd) (rd * qd) (a + i * p) (b + j * q) pl (mul-pos psd ppd) (mul-pos prd pqd)
    (in_units l sn sd pn pd a p i ea ep) (in_units l rn rd qn qd b q j eb eq) h

pub units_tick : (l sn sd pn pd a p i rn rd qn qd b q j : ℕ) → 0 < l →
    a * sd ≡ sn * l → p * pd ≡ pn * l → b * rd ≡ rn * l → q * qd ≡ qn * l →
    a + i * p ≡ b + j * q → (sn * pd + i * pn * sd) * (rd * qd) ≡ (rn * qd + j * qn * rd) * (sd * pd)
units_tick l sn sd pn pd a p i rn rd qn qd b q j pl ea ep eb eq h =
    units_same l (sn * pd + i * pn * sd) (sd * pd) (rn * qd + j * qn * rd) (rd * qd) (a + i * p) (b + j * q) pl
    (in_units l sn sd pn pd a p i ea ep) (in_units l rn rd qn qd b q j eb eq) h

above : (u n d l : ℕ) → 0 < n * l → u * d ≡ n * l → 0 < u
above zero n d l p e = absurd (omega (arith, e))
above (suc u) n d l p e = omega arith

-- what is not 0 has units
pub units_positive : (u n d l : ℕ) → 0 < n → 0 < l → u * d ≡ n * l → 0 < u
units_positive u n d l p q e = above u n d l (mul-pos p q) e

-- two clocks, counted in units of 1/l, share an instant exactly where the divisor of the steps divides the distance x of the firsts
pub share_decided : (l sn sd pn pd a p rn rd qn qd b q g x : ℕ) → 0 < l → 0 < sd → 0 < pd → 0 < rd → 0 < qd → 0 < pn → 0 < qn →
    a * sd ≡ sn * l → p * pd ≡ pn * l → b * rd ≡ rn * l → q * qd ≡ qn * l → IsGcd p q g → x ≡ abs_diff a b →
    (IsTrue (nat_eq (x % g) 0)) ↔ ((i : ℕ) × (j : ℕ) × ((sn * pd + i * pn * sd) * (rd * qd) ≡ (rn * qd + j * qn * rd) * (sd * pd)))
share_decided l sn sd pn pd a p rn rd qn qd b q g x pl psd ppd prd pqd ppn pqn ea ep eb eq h e =
    let step = units_positive p pn pd l ppn pl ep in
    let other_step = units_positive q qn qd l pqn pl eq in (
      λ even.
          let divided : g ∣ abs_diff a b = subst (λ n. g ∣ n) e (dvd_of_mod-eq-zero g (eqb-true _ _ even)) in
          let m = shared a b p q g step other_step h divided in
          (m.0, m.1, units_tick l sn sd pn pd a p m.0 rn rd qn qd b q m.1 pl ea ep eb eq m.2),
      λ (i, j, same).
          let divided = distance_divided a b p q g i j h (tick_units l sn sd pn pd a p i rn rd qn qd b q j pl psd ppd prd pqd ea ep eb eq same) in
          eq-eqb _ _ (ap (λ n. n % g) e ∙ mod-eq-zero_of_dvd g divided),
    )
