use Rattle.std.proofs.Common.{◌≡◌, ℕ, ◌<◌, true}
use Rattle.eq_order.specs.private.Reaching.{is_waiting}
use Rattle.eq_order.proofs.fault.first_unreached.Given as goal

abbrev pub invariant-loop-x : goal.invariant-loop-x
invariant-loop-x l = (y : ℕ) → y < l.x → is_waiting l.reached y ≡ true → ⊥
