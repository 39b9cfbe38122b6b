use Rattle.std.proofs.Common.{◌≡◌, ℕ, ◌<◌}
use Rattle.eq_order.specs.private.Reaching.{waiting_count}
use Rattle.eq_order.proofs.fault.first_stuck.Given as goal

abbrev pub invariant-loop-i : goal.invariant-loop-i
invariant-loop-i l = (j : ℕ) → j < l.i → waiting_count l.reads l.reached j ≡ 1 → ⊥
