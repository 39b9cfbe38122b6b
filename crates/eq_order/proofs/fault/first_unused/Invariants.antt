use Rattle.std.proofs.Common.{ℕ, ◌<◌}
use Rattle.eq_order.specs.private.Tables.{IsIdle}
use Rattle.eq_order.proofs.fault.first_unused.Given as goal

abbrev pub invariant-loop-i : goal.invariant-loop-i
invariant-loop-i l = (j : ℕ) → j < l.i → IsIdle l.equations l.used j → ⊥
