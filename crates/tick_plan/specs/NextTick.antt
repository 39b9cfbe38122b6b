-- The first of the moments left at which a class ticks, on the grid of all clocks in seconds.
use Rattle.std.specs.Prelude.{◌≡◌, ℕ, ◌*◌, Option, Some, None, slice_get, Contains}
use Rattle.rational_time.specs.declared.ratio.Ratio.{Ratio}
use Rattle.rational_time.specs.Fraction.{AtMost, IsTick}
use Rattle.flat_model.specs.declared.clock.Clock.TheVariants.{Periodic}
use Rattle.flat_model.specs.declared.clock.Moment.TheVariants.{At}
use Rattle.flat_model.specs.Runnable.{denominators}
use Rattle.tick_plan.specs.Making.{IsLeastMultiple}
use Rattle.tick_plan.specs.Plans.{Planned}

-- one of the moments left is this instant, and the class has a clock in seconds that ticks at it
pub record IsTickLeft (plan : Planned) (class : ℕ) (t : Ratio) : Type 0 where
  pub period : Ratio
  pub start : Ratio
  pub is : slice_get plan.clocks class ≡ Some (Periodic period start)
  pub k : ℕ
  pub at : IsTick period start k t
  pub left : Contains plan.ahead (At t)

-- the first of them, as a number of units of the least common denominator, or that there is none
abbrev pub NextTickIs : Planned → ℕ → Option ℕ → Type 0
NextTickIs plan class None = (t : Ratio) → IsTickLeft plan class t → ⊥
NextTickIs plan class (Some units) = (t : Ratio) × IsTickLeft plan class t × ((v : Ratio) → IsTickLeft plan class v → AtMost t v)
    × ((den : ℕ) → IsLeastMultiple (denominators plan.clocks) den → t.num * den ≡ units * t.den)
