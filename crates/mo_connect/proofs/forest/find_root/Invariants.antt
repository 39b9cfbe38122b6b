use Rattle.std.proofs.Common.{◌<◌, ◌≤◌, length}
use Rattle.mo_connect.specs.private.Links.{AreLinked, KeepsLinks}
use Rattle.mo_connect.proofs.forest.find_root.Given as goal

abbrev pub invariant-loop-at : goal.invariant-loop-at
invariant-loop-at l = record {
  below : l.at ≤ l.fn.start;
  within : l.at < length l.parents;
  kept : KeepsLinks l.fn.parents l.parents;
  linked : AreLinked l.parents l.fn.start l.at;
}

abbrev pub decreases-loop-at : goal.decreases-loop-at
decreases-loop-at l = l.at
