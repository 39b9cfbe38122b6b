use Rattle.std.proofs.Common.{◌≡◌, ℕ, ◌+◌, ◌/◌, ◌<◌, ◌≤◌, get_or, length, min}
use Rattle.tick_tree.specs.Tree.{leaf_of}
use Rattle.tick_tree.proofs.building.fill.Given as goal

abbrev pub invariant-loop-at : goal.invariant-loop-at
invariant-loop-at l = record {
  long : length l.nodes ≡ length l.fn.nodes;
  inner : l.at ≤ length l.nodes / 2;
  least : (i : ℕ) → l.at ≤ i → 0 < i → i < length l.nodes / 2 → get_or l.nodes i 0 ≡ min (get_or l.nodes (i + i) 0) (get_or l.nodes (i + i + 1) 0);
  leaves : (j : ℕ) → leaf_of l.nodes j ≡ leaf_of l.fn.nodes j;
}

abbrev pub decreases-loop-at : goal.decreases-loop-at
decreases-loop-at l = l.at
