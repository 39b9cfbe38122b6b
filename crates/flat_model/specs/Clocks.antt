-- Clocks as positions on an axis.
use Rattle.std.specs.Prelude.{◌≡◌, ℕ, ◌+◌, ◌-◌, ◌*◌, ◌%◌, ◌==◌, ◌&&◌, Bool, Option, Some}
use Rattle.rational_time.specs.declared.ratio.Ratio.{Ratio}
use Rattle.rational_time.specs.Fraction.{at_most, IsSameTick}
use Rattle.flat_model.specs.declared.clock.Clock.{Clock}
use Rattle.flat_model.specs.declared.clock.Clock.TheVariants.{Periodic, Event}

-- t is start + k * period for some k, as a test: t is not before the start, and the distance is a whole multiple of the period
abbrev pub is_tick : Ratio → Ratio → Ratio → Bool
is_tick period start t =
    at_most start t && ((t.num * start.den - start.num * t.den) * period.den) % (period.num * (t.den * start.den)) == 0

-- two clocks share an instant: some position of the one is a position of the other on the same axis
abbrev pub ShareInstant : Clock → Clock → Type 0
ShareInstant (Periodic p s) (Periodic q r) = (i : ℕ) × (j : ℕ) × IsSameTick p s i q r j
ShareInstant (Event a f g) (Event b h k) = (a ≡ b) × ((i : ℕ) × (j : ℕ) × (f * i + g ≡ h * j + k))
ShareInstant _ _ = ⊥

-- two clocks go by one axis: seconds, or the rising moments of one site
abbrev pub AreOnOneAxis : Option Clock → Option Clock → Type 0
AreOnOneAxis (Some (Periodic p s)) (Some (Periodic q r)) = Unit {0}
AreOnOneAxis (Some (Event a f g)) (Some (Event b h k)) = a ≡ b
AreOnOneAxis _ _ = ⊥
