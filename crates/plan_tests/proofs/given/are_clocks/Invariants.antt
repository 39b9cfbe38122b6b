use Rattle.std.proofs.Common.{◌≡◌, ℕ, ◌<◌, Some, slice_get}
use Rattle.flat_model.specs.declared.clock.Clock.{Clock}
use Rattle.plan_tests.proofs.Fine.{IsFine}
use Rattle.plan_tests.proofs.given.are_clocks.Given as goal

abbrev pub invariant-loop-clock : goal.invariant-loop-clock
invariant-loop-clock l = (k : ℕ) (clock : Clock) → k < l.clock-index → slice_get l.clocking.clocks k ≡ Some clock → IsFine l.clocking.sites l.grid clock
