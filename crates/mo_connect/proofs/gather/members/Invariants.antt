use Rattle.std.proofs.Common.{◌≡◌, ℕ, [], get_or, vec_len}
use Rattle.mo_connect.specs.private.Gathered.{HasMembers}
use Rattle.mo_connect.proofs.gather.members.Given as goal

abbrev pub invariant-loop-x : goal.invariant-loop-x
invariant-loop-x l = record {
  size : vec_len l.lists ≡ l.x;
  members : (root : ℕ) → HasMembers l.parents l.x root (get_or l.lists.items root []);
}
