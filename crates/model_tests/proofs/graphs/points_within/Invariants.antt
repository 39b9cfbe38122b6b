use Rattle.std.proofs.Common.{◌≡◌, ℕ, ◌<◌, length, slice_get, Some}
use Rattle.model_tests.proofs.graphs.points_within.Given as goal

abbrev pub invariant-loop-y : goal.invariant-loop-y
invariant-loop-y g l = (k y : ℕ) → k < l.y-index → slice_get l.y-items k ≡ Some y → y < length l.graph
