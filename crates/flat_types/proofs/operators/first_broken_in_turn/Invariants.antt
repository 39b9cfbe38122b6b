use Rattle.std.proofs.Common.{length, ◌-◌, ◌≡◌, drop}
use Rattle.flat_types.specs.Outcomes.{first_broken}
use Rattle.flat_types.specs.Readings.{in_turn}
use Rattle.flat_types.proofs.operators.first_broken_in_turn.Given as goal

abbrev pub invariant-turns : goal.invariant-turns
invariant-turns l = first_broken (in_turn (drop l.at l.conditions) (drop l.at l.branches) l.other) ≡ first_broken (in_turn l.conditions l.branches l.other)

abbrev pub decreases-turns : goal.decreases-turns
decreases-turns l = length l.conditions - l.at
