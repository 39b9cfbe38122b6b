use Rattle.std.proofs.Common.{◌≡◌, ℕ, ◌<◌, length, get_or, slice_get, Some}
use Rattle.tick_plan.specs.declared.leaves.Leaf.{Leaf}
use Rattle.tick_plan.proofs.leaves.parts.Given as goal

abbrev pub invariant-loop-leaf : goal.invariant-loop-leaf
invariant-loop-leaf l = record {
  long : length l.firsts.items ≡ l.leaf-index;
  wide : length l.steps.items ≡ l.leaf-index;
  each : (j : ℕ) (leaf : Leaf) → j < l.leaf-index → slice_get l.leaves j ≡ Some leaf → (get_or l.firsts.items j 0 ≡ leaf.first) × (get_or l.steps.items j 0 ≡ leaf.step);
}
