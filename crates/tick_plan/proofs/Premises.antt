-- What a plan asks of clocks holds of those that can be run.
use Rattle.std.proofs.Common.{◌≡◌, subst, ℕ, slice_get, Some}
use Rattle.std.proofs.lemmas.Option.{slice_get_within, get_or_from_slice_get}
use Rattle.flat_model.specs.declared.clock.Clock.{Clock}
use Rattle.flat_model.specs.declared.clock.Clock.TheVariants.{Periodic, Event}
use Rattle.flat_model.specs.declared.clock.Clocking.{Clocking}
use Rattle.flat_model.specs.Runnable.{AreClocks, CanRun}
use Rattle.tick_plan.specs.private.Grid.{HaveFactors}
use Rattle.tick_plan.specs.Making.{AreCountable, IsCommonOf}
use Rattle.tick_plan.proofs.Commons.{common_of}

can_run : (clocking : Clocking) → AreClocks clocking → (i : ℕ) (clock : Clock) → slice_get clocking.clocks i ≡ Some clock → CanRun clocking.sites clock
can_run clocking are i clock is = subst (CanRun clocking.sites) (get_or_from_slice_get clocking.clocks i clock clock is) (are.each i clock (slice_get_within clocking.clocks i clock is))

pub countable : (clocking : Clocking) → AreClocks clocking → AreCountable clocking.clocks
countable clocking are i period start is = let run = can_run clocking are i (Periodic period start) is in record { moving = run.0; period_parts = run.1; start_parts = run.2 }

pub have_factors : (clocking : Clocking) → AreClocks clocking → HaveFactors clocking.clocks
have_factors clocking are i site factor shift is = (can_run clocking are i (Event site factor shift) is).1

pub on_one_grid : (clocking : Clocking) → AreClocks clocking → IsCommonOf clocking.clocks
on_one_grid clocking are = common_of clocking.clocks are.grid
