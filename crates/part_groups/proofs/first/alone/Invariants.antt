use Rattle.std.proofs.Common.{◌≡◌, ℕ, ◌<◌, vec_len, slice_index_or}
use Rattle.part_groups.proofs.first.alone.Given as goal

abbrev pub invariant-loop-x : goal.invariant-loop-x
invariant-loop-x l = (vec_len l.first ≡ l.x) × ((y : ℕ) → y < l.x → slice_index_or l.first.items y 0 ≡ y)
