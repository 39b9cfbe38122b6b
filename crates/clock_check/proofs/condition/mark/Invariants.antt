use Rattle.std.proofs.Common.{◌≡◌, ◌↔◌, ◌⊎◌, ℕ, true, false, length, take, slice_index_or}
use Rattle.clock_check.specs.private.Holding.{HasHold}
use Rattle.clock_check.proofs.condition.mark.Given as goal

abbrev pub invariant-loop-node : goal.invariant-loop-node
invariant-loop-node l = (length l.marks ≡ length l.fn.marks)
    × ((c : ℕ) → (slice_index_or l.marks c false ≡ true) ↔ ((slice_index_or l.fn.marks c false ≡ true) ⊎ HasHold l.fn.class_of (take l.node-index l.fn.holds) c))
