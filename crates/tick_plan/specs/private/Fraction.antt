-- A course whose clocks can be counted, each in its own denominators.
use Rattle.std.specs.Prelude.{◌*◌, ◌<◌}
use Rattle.rational_time.specs.Fraction.{second_limit}
use Rattle.tick_plan.specs.declared.course.Course.{Course}
use Rattle.tick_plan.specs.private.Course.{AreRows, IsWithin}
use Rattle.tick_plan.specs.private.Grid.{HaveFactors}
use Rattle.tick_plan.specs.Making.{AreCountable, IsCommonOf}

-- what a plan on fractions keeps of its course
pub record IsWhole (c : Course) : Type 0 where
  pub rows : AreRows c
  pub countable : AreCountable c.clocks
  pub factors : HaveFactors c.clocks
  pub common : IsCommonOf c.clocks
  pub early : c.stop.num < second_limit * c.stop.den
  pub within : IsWithin c.given c.stop
