-- Clocks whose positions rise.
use Rattle.std.specs.Prelude.{◌<◌}
use Rattle.flat_model.specs.declared.clock.Clock.{Clock}
use Rattle.flat_model.specs.declared.clock.Clock.TheVariants.{Periodic, Event}

-- the period or the factor is not 0
abbrev pub Rises : Clock → Type 0
Rises (Periodic period start) = 0 < period.num
Rises (Event site factor shift) = 0 < factor
