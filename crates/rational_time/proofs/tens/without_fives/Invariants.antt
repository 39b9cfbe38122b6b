use Rattle.std.proofs.Common.{◌≡◌, ◌*◌, ◌<◌}
use Rattle.rational_time.proofs.tens.without_fives.Given as goal

-- the parts left have the ratio of the two given
abbrev pub invariant-loop-under : goal.invariant-loop-under
invariant-loop-under l = record {
  same : l.top * l.fn.den ≡ l.fn.num * l.under;
  positive : 0 < l.under;
}

abbrev pub decreases-loop-under : goal.decreases-loop-under
decreases-loop-under l = l.under
