-- Counting the ticks of a clock up to an instant, over one common denominator.
use Rattle.std.proofs.Common.{◌≡◌, ap, ℕ, ◌+◌, ◌-◌, ◌*◌, ◌/◌, ◌<◌, ◌≤◌, ◌↔◌, arith, le-div_iff_mul-le}
use Rattle.rational_time.specs.Fraction.{IsFloor}
use Rattle.rational_time.proofs.Floors.{floor_bounds, floor_bounded}

-- no tick comes before the first
pub no_tick : (sn sd pn pd n d first last k : ℕ) → 0 < d → first ≡ sn * pd → IsFloor (n * (sd * pd)) d last → last < first →
    (sn * pd + k * pn * sd) * d ≤ n * (sd * pd) → ⊥
no_tick sn sd pn pd n d first last k p f h before within =
    let reached : sn * pd + k * pn * sd ≤ last = floor_bounds (n * (sd * pd)) d last (sn * pd + k * pn * sd) p h within in
    omega arith

-- how many ticks there are from the first to the last whole number of units
pub tick_count : (sn sd pn pd n d first step last k : ℕ) → 0 < d → 0 < step → first ≡ sn * pd → step ≡ pn * sd → IsFloor (n * (sd * pd)) d last → first ≤ last →
    (k < (last - first) / step + 1) ↔ ((sn * pd + k * pn * sd) * d ≤ n * (sd * pd))
tick_count sn sd pn pd n d first step last k p some f s h le =
    let place : first + k * step ≡ sn * pd + k * pn * sd = omega (arith, f, ap (λ z. k * z) s) in (
      λ below.
          let within : k * step ≤ last - first = (le-div_iff_mul-le {x = k} {y = last - first} some).0 (omega arith) in
          floor_bounded (n * (sd * pd)) d last (sn * pd + k * pn * sd) h (omega arith),
      λ within.
          let reached : sn * pd + k * pn * sd ≤ last = floor_bounds (n * (sd * pd)) d last (sn * pd + k * pn * sd) p h within in
          let many : k ≤ (last - first) / step = (le-div_iff_mul-le {x = k} {y = last - first} some).1 (omega arith) in
          omega arith,
    )
