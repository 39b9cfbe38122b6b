use Rattle.std.proofs.Common.{ℕ, ◌<◌, ◌≤◌, length, Contains}
use Rattle.rational_time.specs.declared.ratio.Ratio.{Ratio}
use Rattle.tick_plan.specs.private.Course.{IsPeriodic}
use Rattle.tick_plan.specs.private.Leaves.{IsLeafOf, leaf_at}
use Rattle.tick_plan.specs.declared.leaves.Leaf.{Leaf}
use Rattle.tick_plan.proofs.leaves.leaves.Given as goal

abbrev pub invariant-loop-class : goal.invariant-loop-class
invariant-loop-class l = record {
  short : length l.leaves.items ≤ l.class;
  each : (leaf : Leaf) → Contains l.leaves.items leaf → IsLeafOf l.clocks l.firsts l.steps leaf;
  all : (i : ℕ) (period start : Ratio) → i < l.class → IsPeriodic l.clocks i period start → Contains l.leaves.items (leaf_at l.firsts l.steps i);
}
