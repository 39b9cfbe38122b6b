-- Clocks in units of one denominator.
use Rattle.std.specs.Prelude.{◌≡◌, ℕ, ◌-◌, ◌*◌, ◌/◌, ◌%◌, ◌<◌, ◌==◌, ◌&&◌, nat_le, Bool, List, length, get_or, slice_get, min, Option, Some}
use Rattle.rational_time.specs.declared.ratio.Ratio.{Ratio}
use Rattle.flat_model.specs.declared.clock.Moment.{Moment}
use Rattle.flat_model.specs.declared.clock.Moment.TheVariants.{At}
use Rattle.flat_model.specs.declared.clock.Clock.{Clock}
use Rattle.flat_model.specs.declared.clock.Clock.TheVariants.{Periodic, Event}

-- the start and the period of a clock in units, neither above the limit
pub record AreUnits (den limit : ℕ) (period start : Ratio) (first step : ℕ) : Type 0 where
  pub from : ℕ
  pub every : ℕ
  pub from_is : from * start.den ≡ den * start.num
  pub every_is : every * period.den ≡ den * period.num
  pub some : 0 < every
  pub first_is : first ≡ min from limit
  pub step_is : step ≡ min every limit

-- no Event clock has the factor 0
abbrev pub HaveFactors : List Clock → Type 0
HaveFactors clocks = (i site factor shift : ℕ) → slice_get clocks i ≡ Some (Event site factor shift) → 0 < factor

-- each Periodic clock has its units, and no Event clock the factor 0
pub record IsScaled (clocks : List Clock) (den limit : ℕ) (firsts steps : List ℕ) : Type 0 where
  pub long : length firsts ≡ length clocks
  pub wide : length steps ≡ length clocks
  pub some : 0 < limit
  pub units : (i : ℕ) (period start : Ratio) → slice_get clocks i ≡ Some (Periodic period start) → AreUnits den limit period start (get_or firsts i 0) (get_or steps i 0)
  pub factors : HaveFactors clocks

-- the test whether an instant is a tick, in units
abbrev pub grid_tick : ℕ → ℕ → ℕ → Ratio → Bool
grid_tick den first step t = ((t.num * den) % t.den == 0) && nat_le first ((t.num * den) / t.den) && (((t.num * den) / t.den - first) % step == 0)

-- a value in units, or the limit where it has more
abbrev pub CountsTo : ℕ → ℕ → Ratio → ℕ → Type 0
CountsTo den limit value result = (units : ℕ) × (units * value.den ≡ den * value.num) × (result ≡ min units limit)

-- the instant given last is before the limit
abbrev pub IsBeforeLimit : Option Moment → ℕ → ℕ → Type 0
IsBeforeLimit (Some (At t)) den limit = t.num * den < limit * t.den
IsBeforeLimit _ den limit = Unit {0}
