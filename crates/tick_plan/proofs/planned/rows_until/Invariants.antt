use Rattle.std.proofs.Common.{◌≡◌, ◌≤◌, take, count_by}
use Rattle.rational_time.specs.Fraction.{at_most}
use Rattle.tick_plan.proofs.planned.rows_until.Given as goal

abbrev pub invariant-loop-time : goal.invariant-loop-time
invariant-loop-time l = (l.rows ≡ count_by (λ t. at_most t l.stop) (take l.time-index l.times)) × (l.rows ≤ l.time-index)
