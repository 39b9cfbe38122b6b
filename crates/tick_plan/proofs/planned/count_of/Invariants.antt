use Rattle.std.proofs.Common.{◌≡◌, ◌+◌, ◌*◌, ◌≤◌, ◌^◌, ℕ, take}
use Rattle.flat_model.specs.Plan.{HaveTicks}
use Rattle.tick_plan.proofs.planned.count_of.Given as goal

abbrev pub invariant-loop-clock : goal.invariant-loop-clock
invariant-loop-clock l = record {
  ticks : (n : ℕ) × HaveTicks l.stop l.rows (take l.clock-index l.clocks) n × (l.count ≡ l.rows + n);
  few : l.count ≤ l.rows + l.clock-index * 2 ^ 64;
}
