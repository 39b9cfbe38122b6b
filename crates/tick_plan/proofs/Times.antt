-- The times of a table rise from 0 on, by their places.
use Rattle.std.proofs.Common.{◌≡◌, refl, subst, ℕ, zero, suc, ◌<◌, List, [], ◌∷◌, slice_get, Some, arith}
use Rattle.std.proofs.lemmas.Option.{none-some, same_Some}
use Rattle.rational_time.specs.declared.ratio.Ratio.{Ratio}
use Rattle.rational_time.specs.Fraction.{Below}
use Rattle.rational_time.proofs.Order.{cross_lt_le_trans}
use Rattle.flat_model.specs.Moments.{IsRising}
use Rattle.flat_model.specs.Tables.{AreTimes, StartAtZero}
use Rattle.tick_plan.specs.private.Course.{IsRisingFromZero}

head_below : (t : Ratio) (ts : List Ratio) → IsRising (t ∷ ts) → (j : ℕ) (u : Ratio) → slice_get ts j ≡ Some u → Below t u
head_below t [] up j u is = absurd (none-some u is)
head_below t (v ∷ ts) up zero u is = subst (λ x. Below t x) (same_Some v u is) up.0
head_below t (v ∷ ts) up (suc j) u is = let more = head_below v ts up.1 j u is in cross_lt_le_trans t.num t.den v.num v.den u.num u.den u.positive up.0 (omega (arith, more))

tail_rising : (t : Ratio) (ts : List Ratio) → IsRising (t ∷ ts) → IsRising ts
tail_rising t [] up = tt
tail_rising t (v ∷ ts) up = up.1

by_places : (ts : List Ratio) → IsRising ts → (i j : ℕ) (t u : Ratio) → i < j → slice_get ts i ≡ Some t → slice_get ts j ≡ Some u → Below t u
by_places [] up i j t u lt at is = absurd (none-some t at)
by_places (x ∷ ts) up zero zero t u lt at is = omega (arith, lt)
by_places (x ∷ ts) up zero (suc j) t u lt at is = subst (λ y. Below y u) (same_Some x t at) (head_below x ts up j u is)
by_places (x ∷ ts) up (suc i) zero t u lt at is = omega (arith, lt)
by_places (x ∷ ts) up (suc i) (suc j) t u lt at is = by_places ts (tail_rising x ts up) i j t u (omega (arith, lt)) at is

first_zero : (ts : List Ratio) → StartAtZero ts → (u : Ratio) × (slice_get ts 0 ≡ Some u) × (u.num ≡ 0)
first_zero [] none = absurd none
first_zero (t ∷ ts) is = (t, refl, is)

pub rising_from_zero : (ts : List Ratio) → AreTimes ts → IsRisingFromZero ts
rising_from_zero ts are = record { zero_first = first_zero ts are.first; ordered = by_places ts are.rising }
