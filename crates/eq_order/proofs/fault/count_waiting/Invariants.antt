use Rattle.std.proofs.Common.{◌≡◌, ◌≤◌, take, count_by}
use Rattle.eq_order.specs.private.Reaching.{is_waiting}
use Rattle.eq_order.proofs.fault.count_waiting.Given as goal

abbrev pub invariant-loop-name : goal.invariant-loop-name
invariant-loop-name l = record {
  counted : l.count ≡ count_by (is_waiting l.reached) (take l.name-index l.names);
  few : l.count ≤ l.name-index;
}
