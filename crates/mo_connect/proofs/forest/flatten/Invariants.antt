use Rattle.std.proofs.Common.{ℕ, ◌<◌}
use Rattle.mo_connect.specs.private.Links.{parent_of, IsRoot, KeepsLinks}
use Rattle.mo_connect.proofs.forest.flatten.Given as goal

abbrev pub invariant-loop-x : goal.invariant-loop-x
invariant-loop-x l = record {
  kept : KeepsLinks l.fn.parents l.parents;
  flat : (y : ℕ) → y < l.x → IsRoot l.parents (parent_of l.parents y);
}
