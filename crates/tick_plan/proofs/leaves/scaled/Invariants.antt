use Rattle.std.proofs.Common.{◌≡◌, ℕ, ◌<◌, length, get_or, slice_get, Some}
use Rattle.rational_time.specs.declared.ratio.Ratio.{Ratio}
use Rattle.flat_model.specs.declared.clock.Clock.TheVariants.{Periodic}
use Rattle.tick_plan.specs.private.Grid.{AreUnits}
use Rattle.tick_plan.proofs.leaves.scaled.Given as goal

abbrev pub invariant-loop-clock : goal.invariant-loop-clock
invariant-loop-clock l = record {
  long : length l.firsts.items ≡ l.clock-index;
  wide : length l.steps.items ≡ l.clock-index;
  units : (i : ℕ) (period start : Ratio) → i < l.clock-index → slice_get l.clocks i ≡ Some (Periodic period start) → AreUnits l.den l.limit period start (get_or l.firsts.items i 0) (get_or l.steps.items i 0);
}
