-- The whole part of an interval, however its length is written.
use Rattle.std.proofs.Common.{◌≡◌, refl, ap, ℕ, ◌+◌, ◌*◌, ◌/◌, ◌%◌, ◌<◌, ◌≤◌, pos, mul-pos, arith}
use Rattle.std.proofs.Math.Nat.{mod-lt}
use Rattle.std.proofs.lemmas.Nat.{div-add-mod'}
use Rattle.rational_time.specs.Fraction.{IsFloor}
use Rattle.flat_model.specs.declared.clock.Elapsed.{Elapsed}
use Rattle.flat_model.specs.declared.clock.Elapsed.TheVariants.{Period, Between}
use Rattle.flat_model.specs.Intervals.{length_of, IsLengthOf}
use Rattle.flat_model.specs.Meaning.{whole_of}
use Rattle.flat_model.specs.Views.{Length}
use Rattle.flat_model.proofs.Wholes.{floor_same}

pub length_pos : (e : Elapsed) → 0 < (length_of e).den
length_pos (Period period) = period.positive
length_pos (Between t u) = mul-pos t.positive u.positive

is_floor : (n d : ℕ) → 0 < d → IsFloor n d (n / d)
is_floor n d some = let same = div-add-mod' n d in let less = mod-lt n some in (omega (arith, same), omega (arith, same, less))

pub whole_is : (e : Elapsed) (k floor : ℕ) → IsFloor ((length_of e).num * k) (length_of e).den floor → whole_of (length_of e) k ≡ pos floor
whole_is e k floor is = ap pos (floor_same (length_of e).num (length_of e).den (length_of e).num (length_of e).den k floor (length_pos e) refl is)

pub whole_same : (e : Elapsed) (length : Length) (k : ℕ) → IsLengthOf e length → whole_of length k ≡ whole_of (length_of e) k
whole_same e length k is =
    ap pos (floor_same length.num length.den (length_of e).num (length_of e).den k ((length_of e).num * k / (length_of e).den) is.0 is.1 (is_floor ((length_of e).num * k) (length_of e).den (length_pos e)))
