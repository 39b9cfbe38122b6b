-- What a plan is made from.
use Rattle.std.specs.Prelude.{◌≡◌, ℕ, ◌<◌, ◌^◌, List, slice_get, Some}
use Rattle.std.specs.Int.{◌∣◌}
use Rattle.rational_time.specs.declared.ratio.Ratio.{Ratio}
use Rattle.rational_time.specs.Fraction.{ArePartsBelow}
use Rattle.rational_time.specs.Multiple.{AllDivide}
use Rattle.flat_model.specs.declared.clock.Clock.{Clock}
use Rattle.flat_model.specs.declared.clock.Clock.TheVariants.{Periodic}

-- each period is above 0, and each part of a Periodic clock is below 2^40
pub record IsCountable (period start : Ratio) : Type 0 where
  pub moving : 0 < period.num
  pub period_parts : ArePartsBelow (2 ^ 40) period
  pub start_parts : ArePartsBelow (2 ^ 40) start

abbrev pub AreCountable : List Clock → Type 0
AreCountable clocks = (i : ℕ) (period start : Ratio) → slice_get clocks i ≡ Some (Periodic period start) → IsCountable period start

-- a number that each denominator divides
pub record IsCommon (clocks : List Clock) (den : ℕ) : Type 0 where
  pub some : 0 < den
  pub divided : (i : ℕ) (period start : Ratio) → slice_get clocks i ≡ Some (Periodic period start) → (period.den ∣ den) × (start.den ∣ den)

-- there is such a number below 2^40
pub record IsCommonOf (clocks : List Clock) : Type 0 where
  pub den : ℕ
  pub below : den < 2 ^ 40
  pub common : IsCommon clocks den

-- m is the least common multiple of the numbers, and 1 where there are none
pub record IsLeastMultiple (numbers : List ℕ) (m : ℕ) : Type 0 where
  pub some : 0 < m
  pub divided : AllDivide numbers m
  pub least : (n : ℕ) → AllDivide numbers n → m ∣ n
