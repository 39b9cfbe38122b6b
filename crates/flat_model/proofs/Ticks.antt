-- The test of a clock holds exactly at its ticks.
use Rattle.std.proofs.Common.{◌≡◌, ap, ◌∙◌, ℕ, ◌+◌, ◌-◌, ◌*◌, ◌/◌, ◌%◌, ◌<◌, ◌≤◌, ◌↔◌, true, le-leb, eq-eqb, leb-true, arith, div-add-mod', le_of_mul-le-mul_right}
use Rattle.std.proofs.Math.Nat.{mul-mod_left}
use Rattle.std.proofs.lemmas.Bool.{and_from, and_parts, eqb-true}
use Rattle.rational_time.specs.declared.ratio.Ratio.{Ratio}
use Rattle.rational_time.specs.Fraction.{IsTick}
use Rattle.flat_model.specs.Clocks.{is_tick}

-- an instant n/d that is tick k of the clock with start s/w and period p/v is not before the start
not_before : (n d s w k p v : ℕ) → 0 < v → n * (w * v) ≡ (s * v + k * p * w) * d → s * d ≤ n * w
not_before n d s w k p v some at = le_of_mul-le-mul_right {k = v} (omega (arith, at)) some

-- its distance from the start is k periods
distance_of_tick : (n d s w k p v : ℕ) → s * d ≤ n * w → n * (w * v) ≡ (s * v + k * p * w) * d → (n * w - s * d) * v ≡ k * (p * (d * w))
distance_of_tick n d s w k p v after at = far (n * w - s * d) (omega (arith, after))
  where
    far : (m : ℕ) → m + s * d ≡ n * w → m * v ≡ k * (p * (d * w))
    far m whole = omega (arith, at, ap (λ q. q * v) whole)

-- an instant at a distance of k periods from the start is tick k
tick_of_distance : (n d s w k p v : ℕ) → s * d ≤ n * w → (n * w - s * d) * v ≡ k * (p * (d * w)) → n * (w * v) ≡ (s * v + k * p * w) * d
tick_of_distance n d s w k p v after = far (n * w - s * d) (omega (arith, after))
  where
    far : (m : ℕ) → m + s * d ≡ n * w → m * v ≡ k * (p * (d * w)) → n * (w * v) ≡ (s * v + k * p * w) * d
    far m whole at = omega (arith, at, ap (λ q. q * v) whole)

-- a number with no remainder is its quotient times the divisor
whole_quotient : (a b : ℕ) → a % b ≡ 0 → a ≡ a / b * b
whole_quotient a b none = omega (arith, none, div-add-mod' a b)

tick_of_test : (period start t : Ratio) → is_tick period start t ≡ true → (k : ℕ) × IsTick period start k t
tick_of_test period start t passes =
    let axis = period.num * (t.den * start.den) in
    let far = (t.num * start.den - start.num * t.den) * period.den in
    let parts = and_parts _ _ passes in
    let after = leb-true (start.num * t.den) (t.num * start.den) parts.0 in
    (far / axis, tick_of_distance t.num t.den start.num start.den (far / axis) period.num period.den after (whole_quotient far axis (eqb-true (far % axis) 0 parts.1)))

test_of_tick : (period start t : Ratio) (k : ℕ) → IsTick period start k t → is_tick period start t ≡ true
test_of_tick period start t k at =
    let axis = period.num * (t.den * start.den) in
    let after = not_before t.num t.den start.num start.den k period.num period.den period.positive at in
    let far = distance_of_tick t.num t.den start.num start.den k period.num period.den after at in
    and_from _ _ (le-leb (start.num * t.den) (t.num * start.den) after) (eq-eqb _ 0 (ap (λ q. q % axis) far ∙ mul-mod_left k axis))

pub is_tick_law : (period start t : Ratio) → (is_tick period start t ≡ true) ↔ ((k : ℕ) × IsTick period start k t)
is_tick_law period start t = (tick_of_test period start t, λ tick. test_of_tick period start t tick.0 tick.1)
