use Rattle.std.proofs.Common.{◌≡◌, ℕ, ◌<◌, Some, slice_get}
use Rattle.std.specs.Int.{◌∣◌}
use Rattle.rational_time.specs.declared.ratio.Ratio.{Ratio}
use Rattle.flat_model.specs.declared.clock.Clock.TheVariants.{Periodic}
use Rattle.tick_plan.proofs.common.common_den.Given as goal

abbrev pub invariant-loop-clock : goal.invariant-loop-clock
invariant-loop-clock l = record {
  some : 0 < l.den;
  divided : (i : ℕ) (period start : Ratio) → i < l.clock-index → slice_get l.clocks i ≡ Some (Periodic period start) → (period.den ∣ l.den) × (start.den ∣ l.den);
  least : (m : ℕ) → ((i : ℕ) (period start : Ratio) → slice_get l.clocks i ≡ Some (Periodic period start) → (period.den ∣ m) × (start.den ∣ m)) → l.den ∣ m;
}
