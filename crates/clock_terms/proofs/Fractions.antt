-- Positions: when two are one, sums, differences and parts.
use Rattle.std.proofs.Common.{ℕ, ◌+◌, ◌*◌, ◌<◌, arith, ap, mul-pos, refl}
use Rattle.std.proofs.Math.Nat.{eq_of_mul-eq-mul_right}
use Rattle.clock_terms.specs.Position.{Position, IsAt, plus, minus, part}

pub at_refl : (a : Position) → IsAt a a
at_refl a = refl

pub at_sym : (a b : Position) → IsAt a b → IsAt b a
at_sym a b e = omega (arith, e)

pub at_trans : (a b c : Position) → 0 < b.den → IsAt a b → IsAt b c → IsAt a c
at_trans a b c pos e f = eq_of_mul-eq-mul_right b.den pos (a.more * c.den + c.less * a.den) (c.more * a.den + a.less * c.den)
    (omega (arith, ap (λ z. z * c.den) e, ap (λ z. z * a.den) f))

-- sums, differences and parts of what is one are one
pub plus_at : (a b c d : Position) → IsAt a b → IsAt c d → IsAt (plus a c) (plus b d)
plus_at a b c d e f = omega (arith, ap (λ z. z * (c.den * d.den)) e, ap (λ z. z * (a.den * b.den)) f)

pub minus_at : (a b c d : Position) → IsAt a b → IsAt c d → IsAt (minus a c) (minus b d)
minus_at a b c d e f = omega (arith, ap (λ z. z * (c.den * d.den)) e, ap (λ z. z * (a.den * b.den)) f)

pub part_at : (k r : ℕ) (a b : Position) → IsAt a b → IsAt (part k r a) (part k r b)
part_at k r a b e = omega (arith, ap (λ z. k * r * z) e)

-- what is added to one position comes off again
pub plus_cancel : (a b c d : Position) → 0 < a.den → 0 < b.den → IsAt a b → IsAt (plus a c) (plus b d) → IsAt c d
plus_cancel a b c d pa pb e f = eq_of_mul-eq-mul_right (a.den * b.den) (mul-pos pa pb) (c.more * d.den + d.less * c.den) (d.more * c.den + c.less * d.den)
    (omega (arith, ap (λ z. z * (c.den * d.den)) e, f))

pub plus_minus : (a b : Position) → IsAt (minus (plus a b) b) a
plus_minus a b = omega arith

pub minus_plus : (a b : Position) → IsAt (plus (minus a b) b) a
minus_plus a b = omega arith

pub plus_swap : (a b c : Position) → IsAt (plus (plus a b) c) (plus (plus a c) b)
plus_swap a b c = omega arith

pub minus_swap : (a b c : Position) → IsAt (minus (plus a b) c) (plus (minus a c) b)
minus_swap a b c = omega arith

pub plus_assoc : (a b c : Position) → IsAt (plus (plus a b) c) (plus a (plus b c))
plus_assoc a b c = omega arith

-- the distance of two sums
pub step : (a b : Position) (i : ℕ) → IsAt (minus (plus a (part (i + 1) 1 b)) (plus a (part i 1 b))) b
step a b i = omega arith

pub part_none : (a b : Position) → IsAt (plus a (part 0 1 b)) a
part_none a b = omega arith

pub part_whole : (a : Position) → IsAt (part 1 1 a) a
part_whole a = omega arith

pub part_of_part : (i f : ℕ) (a : Position) → IsAt (part (f * i) 1 a) (part i 1 (part f 1 a))
part_of_part i f a = omega arith

pub split_parts : (i j f : ℕ) (a : Position) → IsAt (plus (part i 1 a) (part j f a)) (part (f * i + j) 1 (part 1 f a))
split_parts i j f a = omega arith

pub part_back : (f : ℕ) (a : Position) → IsAt (part 1 f (part f 1 a)) a
part_back f a = omega arith

pub part_forth : (f : ℕ) (a : Position) → IsAt (part f 1 (part 1 f a)) a
part_forth f a = omega arith
