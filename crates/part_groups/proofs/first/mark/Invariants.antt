use Rattle.std.proofs.Common.{◌≡◌, ℕ, ◌⊎◌, length, take, slice_index_or, Contains}
use Rattle.part_groups.proofs.first.mark.Given as goal

abbrev pub invariant-loop-x : goal.invariant-loop-x
invariant-loop-x l = (length l.first ≡ length l.fn.first) × ((x : ℕ) →
    (Contains (take l.x-index l.fn.class) x × (slice_index_or l.first x 0 ≡ l.least))
    ⊎ ((Contains (take l.x-index l.fn.class) x → ⊥) × (slice_index_or l.first x 0 ≡ slice_index_or l.fn.first x 0)))
