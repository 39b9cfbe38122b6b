use Rattle.std.proofs.Common.{◌≡◌, ◌-◌, ◌<◌, get_or, length}
use Rattle.tick_tree.proofs.tree.due_leaf.Given as goal

abbrev pub invariant-loop-at : goal.invariant-loop-at
invariant-loop-at l = record {
  some : 0 < l.at;
  within : l.at < length l.nodes;
  due : get_or l.nodes l.at 0 ≡ get_or l.nodes 1 0;
}

abbrev pub decreases-loop-at : goal.decreases-loop-at
decreases-loop-at l = length l.nodes - l.at
