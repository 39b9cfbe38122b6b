-- The intervals of clocks, measured.
use Rattle.std.specs.Prelude.{◌≡◌, ◌-◌, ◌*◌, ◌^◌, ◌<◌}
use Rattle.rational_time.specs.declared.ratio.Ratio.{Ratio}
use Rattle.rational_time.specs.Fraction.{AtMost, second_limit}
use Rattle.flat_model.specs.declared.clock.Elapsed.{Elapsed}
use Rattle.flat_model.specs.declared.clock.Elapsed.TheVariants.{Period, Between}
use Rattle.flat_model.specs.Views.{Length}

-- the length of an interval in seconds
abbrev pub length_of : Elapsed → Length
length_of (Period period) = record { num = period.num; den = period.den }
length_of (Between t u) = record { num = u.num * t.den - t.num * u.den; den = t.den * u.den }

-- a length of time is that of an interval: they are one fraction
abbrev pub IsLengthOf : Elapsed → Length → Type 0
IsLengthOf interval length = (0 < length.den) × (length.num * (length_of interval).den ≡ (length_of interval).num * length.den)

-- an instant before 2^20 seconds with a denominator below 2^40
abbrev pub IsInRange : Ratio → Type 0
IsInRange t = (t.num < second_limit * t.den) × (t.den < 2 ^ 40)

-- an interval whose whole multiples fit 128 bits: a period, or the time between two instants in order and in range
abbrev pub IsMeasurable : Elapsed → Type 0
IsMeasurable (Period period) = Unit {0}
IsMeasurable (Between t u) = AtMost t u × IsInRange t × IsInRange u
