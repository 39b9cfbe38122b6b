use Rattle.std.proofs.Common.{◌≡◌, ℕ, vec_len}
use Rattle.mo_connect.specs.private.Links.{IsRoot}
use Rattle.mo_connect.proofs.forest.roots.Given as goal

abbrev pub invariant-loop-x : goal.invariant-loop-x
invariant-loop-x l = record {
  size : vec_len l.parents ≡ l.x;
  roots : (y : ℕ) → IsRoot l.parents.items y;
}
