use Rattle.std.proofs.Common.{◌≡◌, ◌≤◌, ◌==◌, not}
use Rattle.eq_order.specs.private.Reaching.{waiting_count}
use Rattle.eq_order.specs.private.Tables.{count_below}
use Rattle.eq_order.proofs.fault.count_readers.Given as goal

abbrev pub invariant-loop-i : goal.invariant-loop-i
invariant-loop-i l = record {
  counted : l.count ≡ count_below (λ j. not (waiting_count l.reads l.reached j == 0)) l.i;
  few : l.count ≤ l.i;
}
