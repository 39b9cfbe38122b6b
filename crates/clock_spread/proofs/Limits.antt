-- Positions and the ratios that stand for them: signs, lowest terms and limits.
use Rattle.std.proofs.Common.{◌≡◌, ◌∙◌, refl, sym, ap, ap₂, subst, ℕ, zero, suc, ◌+◌, ◌-◌, ◌*◌, ◌^◌, ◌<◌, ◌≤◌, ◌↔◌, ◌⊎◌, inl, inr, ⊎_elim, Bool, true, false, if◌then◌else◌, arith, mul-pos, le_of_mul-le-mul_right, ℤ, pos, ◌+ℤ◌, ◌<ℤ◌, unsigned_abs}
use Rattle.std.specs.Int.{abs_diff}
use Rattle.std.proofs.lemmas.Int.{ints}
use Rattle.rational_time.specs.declared.ratio.Ratio.{Ratio}
use Rattle.rational_time.specs.Fraction.{IsFraction, Exceeds, DoesNotFit, ArePartsBelow}
use Rattle.rational_time.specs.Shift.{signed, moved_num}
use Rattle.clock_terms.specs.declared.data.Grid.{Grid}
use Rattle.clock_spread.specs.private.MovedStarts.{moved_start, HaveSameParts}
use Rattle.rational_time.proofs.Fractions.{IsLowest-ratio, IsGcd-ratio, below_limits, lowest_same}
use Rattle.clock_terms.specs.Position.{Position, IsAt, at_ratio, at_signed, IsPastLimit, IsTooFine, IsFine, Progression, IsProper, AreSame, progression_of_grid}

-- the difference of two numbers, where it is w
diff_is : (m l w : ℕ) → m ≡ w + l → abs_diff m l ≡ w
diff_is m l w e = omega (arith, e)

diff_is_less : (m l w : ℕ) → l ≡ w + m → abs_diff m l ≡ w
diff_is_less m l w e = omega (arith, e)

-- n/d + l = m gives the distance of m and l
size_plus : (num den m l d : ℕ) → 0 < den → num * d + l * den ≡ m * den → num * d ≡ abs_diff m l * den
size_plus num den m l d p e =
    let le : l ≤ m = le_of_mul-le-mul_right {k = den} (omega (arith, e)) p in
    let w = m - l in
    let m_is : m ≡ w + l = omega (arith, le) in
    rw (diff_is m l w m_is) (omega (arith, e, ap (λ z. z * den) m_is))

size_minus : (num den m l d : ℕ) → 0 < den → 0 * d + l * den ≡ m * den + num * d → num * d ≡ abs_diff m l * den
size_minus num den m l d p e =
    let le : m ≤ l = le_of_mul-le-mul_right {k = den} (omega (arith, e)) p in
    let w = l - m in
    let l_is : l ≡ w + m = omega (arith, le) in
    rw (diff_is_less m l w l_is) (omega (arith, e, ap (λ z. z * den) l_is))

-- the ratio of a position is its size
pub size_is : (negative : Bool) (r : Ratio) (a : Position) → IsAt (at_signed negative r) a → IsFraction r (abs_diff a.more a.less) a.den
size_is false r a e = size_plus r.num r.den a.more a.less a.den r.positive (omega (arith, e))
size_is true r a e = size_minus r.num r.den a.more a.less a.den r.positive (omega (arith, e))

pub not_past : (limit : ℕ) (negative : Bool) (r : Ratio) (a : Position) → 0 < a.den → IsAt (at_signed negative r) a → ArePartsBelow limit r → IsPastLimit limit a → ⊥
not_past limit negative r a p e below past =
    below_limits limit limit (abs_diff a.more a.less) a.den r.num r.den p (IsLowest-ratio r (abs_diff a.more a.less) a.den (size_is negative r a e)) below.0 below.1 past

below_or : (limit a b : ℕ) → ((a < limit) × (b < limit) → ⊥) → (limit ≤ a) ⊎ (limit ≤ b)
below_or limit a b h = grind arith

pub past : (limit : ℕ) (negative : Bool) (r : Ratio) (a : Position) → IsAt (at_signed negative r) a → (ArePartsBelow limit r → ⊥) → IsPastLimit limit a
past limit negative r a e over =
    (r.num, r.den, IsLowest-ratio r (abs_diff a.more a.less) a.den (size_is negative r a e), below_or limit r.num r.den over)

-- what does not fit 64 bits is past the lower limit too
pub fits_not : (n d : ℕ) → DoesNotFit n d → Exceeds (2 ^ 40) (2 ^ 40) n d
fits_not n d (p, q, lowest, over) = (p, q, lowest, ⊎_elim (λ h. inl (omega (arith, h))) (λ h. inr (omega (arith, h))) over)

pub exceeds_same : (a b n d m e : ℕ) → n ≡ m → d ≡ e → Exceeds a b n d → Exceeds a b m e
exceeds_same a b n d m e p q h = subst (λ x. Exceeds a b x e) p (subst (λ x. Exceeds a b n x) q h)

-- the sum of two numbers with signs, as what is above and below 0
signs : (n s t : Bool) (a b w : ℕ) → w ≡ unsigned_abs (signed s a +ℤ signed t b) → (n ≡ true) ↔ ((signed s a +ℤ signed t b) <ℤ pos 0)
    → (if n then 0 else w) + ((if s then a else 0) + (if t then b else 0)) ≡ ((if s then 0 else a) + (if t then 0 else b)) + (if n then w else 0)
signs false false false a b w e h = omega (arith, ints, e)
signs false false true a b w e h = grind (arith, ints)
signs false true false a b w e h = grind (arith, ints)
signs false true true a b w e h = grind (arith, ints)
signs true false false a b w e h = grind (arith, ints)
signs true false true a b w e h = grind (arith, ints)
signs true true false a b w e h = grind (arith, ints)
signs true true true a b w e h = grind (arith, ints)

-- the size of such a sum
size_signs : (s t : Bool) (a b : ℕ) → abs_diff ((if s then 0 else a) + (if t then 0 else b)) ((if s then a else 0) + (if t then b else 0)) ≡ unsigned_abs (signed s a +ℤ signed t b)
size_signs false false a b = grind (arith, ints)
size_signs false true a b = grind (arith, ints)
size_signs true false a b = grind (arith, ints)
size_signs true true a b = grind (arith, ints)

below_zero : (s t : Bool) (a b : ℕ) → (signed s a +ℤ signed t b) <ℤ pos 0 → 0 < unsigned_abs (signed s a +ℤ signed t b)
below_zero s t a b h = above (signed s a +ℤ signed t b) h
  where
    above : (z : ℤ) → z <ℤ pos 0 → 0 < unsigned_abs z
    above z h = grind (arith, ints)

-- the parts of a moved start
moved_more : (s p : Ratio) (n back : Bool) (k r : ℕ) → (moved_start s n p k r back).more ≡ (if n then 0 else s.num * (p.den * r)) + (if back then 0 else p.num * k * s.den)
moved_more s p false false k r = omega arith
moved_more s p false true k r = omega arith
moved_more s p true false k r = omega arith
moved_more s p true true k r = omega arith

moved_less : (s p : Ratio) (n back : Bool) (k r : ℕ) → (moved_start s n p k r back).less ≡ (if n then s.num * (p.den * r) else 0) + (if back then p.num * k * s.den else 0)
moved_less s p false false k r = omega arith
moved_less s p false true k r = omega arith
moved_less s p true false k r = omega arith
moved_less s p true true k r = omega arith

moved_den : (s p : Ratio) (n back : Bool) (k r : ℕ) → (moved_start s n p k r back).den ≡ s.den * (p.den * r)
moved_den s p n false k r = omega arith
moved_den s p n true k r = omega arith

pub moved_size : (s p : Ratio) (n back : Bool) (k r : ℕ) → unsigned_abs (moved_num s n p k r back) ≡ abs_diff (moved_start s n p k r back).more (moved_start s n p k r back).less
moved_size s p n back k r =
    sym (size_signs n back (s.num * (p.den * r)) (p.num * k * s.den)) ∙ ap₂ abs_diff (sym (moved_more s p n back k r)) (sym (moved_less s p n back k r))

at_by : (m d w more less den : ℕ) (n : Bool) → m * den ≡ w * d → (if n then 0 else w) + less ≡ more + (if n then w else 0)
    → (if n then 0 else m) * den + less * d ≡ more * d + (if n then m else 0) * den
at_by m d w more less den false e f = omega (arith, e, ap (λ z. z * d) f)
at_by m d w more less den true e f = omega (arith, e, ap (λ z. z * d) f)

pub moved_at : (s p m : Ratio) (n back negative : Bool) (k r : ℕ) → IsFraction m (unsigned_abs (moved_num s n p k r back)) (s.den * (p.den * r))
    → (negative ≡ true) ↔ (moved_num s n p k r back <ℤ pos 0) → IsAt (at_signed negative m) (moved_start s n p k r back)
moved_at s p m n back negative k r size sign =
    let start = moved_start s n p k r back in
    let a = s.num * (p.den * r) in
    let b = p.num * k * s.den in
    let w = unsigned_abs (moved_num s n p k r back) in
    let same_den : m.num * start.den ≡ w * m.den = ap (λ d. m.num * d) (moved_den s p n back k r) ∙ size in
    let plain = signs negative n back a b w refl sign in
    let balance : (if negative then 0 else w) + start.less ≡ start.more + (if negative then w else 0) =
    rw (moved_more s p n back k r, moved_less s p n back k r) plain in
    at_by m.num m.den w start.more start.less start.den negative same_den balance

above_zero : (m d w den : ℕ) → m * den ≡ w * d → 0 < w → 0 < d → 0 < m
above_zero zero d w den e p q = absurd (omega (arith, e, mul-pos p q))
above_zero (suc m) d w den e p q = omega arith

pub moved_sign : (s p m : Ratio) (n back negative : Bool) (k r : ℕ) → IsFraction m (unsigned_abs (moved_num s n p k r back)) (s.den * (p.den * r))
    → (negative ≡ true) ↔ (moved_num s n p k r back <ℤ pos 0) → negative ≡ true → 0 < m.num
moved_sign s p m n back negative k r size sign is =
    above_zero m.num m.den (unsigned_abs (moved_num s n p k r back)) (s.den * (p.den * r)) size
    (below_zero n back (s.num * (p.den * r)) (p.num * k * s.den) (sign.0 is)) m.positive

pub moved_past : (s p : Ratio) (n back : Bool) (k r : ℕ) → DoesNotFit (unsigned_abs (moved_num s n p k r back)) (s.den * (p.den * r)) → IsPastLimit (2 ^ 40) (moved_start s n p k r back)
moved_past s p n back k r h =
    exceeds_same (2 ^ 40) (2 ^ 40) (unsigned_abs (moved_num s n p k r back)) (s.den * (p.den * r))
    (abs_diff (moved_start s n p k r back).more (moved_start s n p k r back).less) (moved_start s n p k r back).den
    (moved_size s p n back k r) (sym (moved_den s p n back k r)) (fits_not (unsigned_abs (moved_num s n p k r back)) (s.den * (p.den * r)) h)

-- a clock that is kept is not too fine, nor is one that is the same
pub fine_not_too_fine : (g : Grid) (p : Progression) → IsProper p → AreSame (progression_of_grid g) p → IsFine (2 ^ 40) g → IsTooFine (2 ^ 40) p → ⊥
fine_not_too_fine g p proper same fine over = ⊎_elim
    (λ h. not_past (2 ^ 40) false g.period p.period proper.period same.period fine.period h)
    (λ h. not_past (2 ^ 40) g.negative g.start p.start proper.start same.start fine.start h)
    over

pub grid_proper : (g : Grid) → IsProper (progression_of_grid g)
grid_proper g = record { period = g.period.positive; start = g.start.positive }

-- two kept clocks of one progression have the same parts
pub same_ratio : (a b : Ratio) → IsAt (at_ratio a) (at_ratio b) → HaveSameParts a b
same_ratio a b e = let s = lowest_same a.num a.den b.num b.den a.positive b.positive (IsGcd-ratio a) (IsGcd-ratio b) (omega (arith, e)) in record { num = s.0; den = s.1 }

pub same_signs : (n m : Bool) (a b : Ratio) → (n ≡ true → 0 < a.num) → (m ≡ true → 0 < b.num) → IsAt (at_signed n a) (at_signed m b) → n ≡ m
same_signs false false a b p q e = refl
same_signs true true a b p q e = refl
same_signs true false a b p q e = absurd (omega (arith, e, mul-pos (p refl) b.positive))
same_signs false true a b p q e = absurd (omega (arith, e, mul-pos (q refl) a.positive))

pub same_sizes : (n m : Bool) (a b : Ratio) → n ≡ m → IsAt (at_signed n a) (at_signed m b) → HaveSameParts a b
same_sizes false false a b is e = same_ratio a b e
same_sizes true true a b is e = same_ratio a b (omega (arith, e))
same_sizes true false a b is e = absurd cc
same_sizes false true a b is e = absurd cc

pub parts_at : (n m : Bool) (a b : Ratio) → n ≡ m → HaveSameParts a b → IsAt (at_signed n a) (at_signed m b)
parts_at false false a b is h = rw (h.num, h.den) refl
parts_at true true a b is h = rw (h.num, h.den) refl
parts_at true false a b is h = absurd cc
parts_at false true a b is h = absurd cc

pub grids_same : (a b : Grid) → a.site ≡ b.site → a.negative ≡ b.negative → (HaveSameParts a.period b.period × HaveSameParts a.start b.start) ↔ AreSame (progression_of_grid a) (progression_of_grid b)
grids_same a b site sign = (
  λ h. record { site = site; period = parts_at false false a.period b.period refl h.0; start = parts_at a.negative b.negative a.start b.start sign h.1 },
  λ h. (same_ratio a.period b.period h.period, same_sizes a.negative b.negative a.start b.start sign h.start),
)

pub grids_signs : (a b : Grid) → IsFine (2 ^ 40) a → IsFine (2 ^ 40) b → AreSame (progression_of_grid a) (progression_of_grid b) → a.negative ≡ b.negative
grids_signs a b p q h = same_signs a.negative b.negative a.start b.start p.sign q.sign h.start

pub moved_den_pos : (s p : Ratio) (n back : Bool) (k r : ℕ) → 0 < r → 0 < (moved_start s n p k r back).den
moved_den_pos s p n back k r h = subst (λ d. 0 < d) (sym (moved_den s p n back k r)) (mul-pos s.positive (mul-pos p.positive h))
