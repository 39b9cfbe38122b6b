use Rattle.std.proofs.Common.{◌≡◌, ◌<◌, ℕ, length, Some, slice_get}
use Rattle.steps_ready.proofs.starting.numbers.Given as goal

abbrev pub invariant-loop-name : goal.invariant-loop-name
invariant-loop-name l = record {
  size : length l.numbers ≡ l.name;
  each : (x : ℕ) → x < l.name → slice_get l.numbers x ≡ Some x;
}
