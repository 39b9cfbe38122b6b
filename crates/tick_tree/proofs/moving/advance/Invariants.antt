use Rattle.std.proofs.Common.{◌≡◌, ℕ, ◌+◌, ◌<◌, ◌⊎◌, length, get_or, min}
use Rattle.tick_tree.specs.Tree.{IsTree, leaf_of}
use Rattle.tick_tree.proofs.Roots.{left_of}
use Rattle.tick_tree.proofs.moving.advance.Given as goal

abbrev pub invariant-loop-nodes : goal.invariant-loop-nodes
invariant-loop-nodes l = record {
  tree : IsTree l.nodes;
  long : length l.nodes ≡ length l.fn.nodes;
  leaves : (j : ℕ) → j < length l.steps → (leaf_of l.nodes j ≡ leaf_of l.fn.nodes j) ⊎ ((leaf_of l.fn.nodes j ≡ get_or l.fn.nodes 1 0) × (get_or l.fn.nodes 1 0 < leaf_of l.nodes j)
      × (leaf_of l.nodes j ≡ min (leaf_of l.fn.nodes j + get_or l.steps j 0) l.limit));
}

abbrev pub decreases-loop-nodes : goal.decreases-loop-nodes
decreases-loop-nodes l = left_of l.limit (length l.steps) (leaf_of l.nodes)
