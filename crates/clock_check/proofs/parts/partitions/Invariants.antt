use Rattle.std.proofs.Common.{◌≡◌, ℕ, ◌<◌, true, false, Some, length, take, slice_get, slice_index_or}
use Rattle.std.specs.List.{count_by}
use Rattle.clock_check.proofs.parts.partitions.Given as goal

abbrev pub invariant-loop-class : goal.invariant-loop-class
invariant-loop-class l = (length l.list ≡ count_by (λ b. b) (take l.class l.fn.clocked))
    × ((c : ℕ) → c < l.class → slice_index_or l.fn.clocked c false ≡ true → slice_get l.list (count_by (λ b. b) (take c l.fn.clocked)) ≡ Some (slice_index_or l.fn.partition c 0))
