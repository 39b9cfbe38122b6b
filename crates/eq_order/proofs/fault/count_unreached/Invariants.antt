use Rattle.std.proofs.Common.{◌≡◌, ◌≤◌}
use Rattle.eq_order.specs.private.Reaching.{is_waiting}
use Rattle.eq_order.specs.private.Tables.{count_below}
use Rattle.eq_order.proofs.fault.count_unreached.Given as goal

abbrev pub invariant-loop-x : goal.invariant-loop-x
invariant-loop-x l = record {
  counted : l.count ≡ count_below (is_waiting l.reached) l.x;
  few : l.count ≤ l.x;
}
