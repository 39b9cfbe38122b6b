use Rattle.std.proofs.Common.{◌≡◌, ◌≤◌, take}
use Rattle.std.specs.List.{count_by}
use Rattle.fork_steps.proofs.turns.count_marked.Given as goal

abbrev pub invariant-loop-slot : goal.invariant-loop-slot
invariant-loop-slot g l = record { few : l.marked ≤ l.slot-index; marked : l.marked ≡ count_by (λ slot. slot.counts) (take l.slot-index l.slots) }
