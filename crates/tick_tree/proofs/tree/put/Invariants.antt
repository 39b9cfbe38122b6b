use Rattle.std.proofs.Common.{◌≡◌, ◌≢◌, ℕ, ◌+◌, ◌/◌, ◌<◌, get_or, length, min}
use Rattle.tick_tree.specs.Tree.{leaf_of}
use Rattle.tick_tree.proofs.tree.put.Given as goal

abbrev pub invariant-loop-at : goal.invariant-loop-at
invariant-loop-at l = record {
  long : length l.nodes ≡ length l.fn.nodes;
  inner : l.at < length l.nodes / 2;
  least : (i : ℕ) → 0 < i → i < length l.nodes / 2 → i ≢ l.at → get_or l.nodes i 0 ≡ min (get_or l.nodes (i + i) 0) (get_or l.nodes (i + i + 1) 0);
  own : leaf_of l.nodes l.leaf ≡ l.key;
  others : (j : ℕ) → j ≢ l.leaf → leaf_of l.nodes j ≡ leaf_of l.fn.nodes j;
}

abbrev pub decreases-loop-at : goal.decreases-loop-at
decreases-loop-at l = l.at
