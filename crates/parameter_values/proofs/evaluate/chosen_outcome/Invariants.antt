use Rattle.std.proofs.Common.{◌≡◌, drop}
use Rattle.parameter_values.specs.Outcomes as outcomes
use Rattle.parameter_values.proofs.evaluate.chosen_outcome.Given as goal

abbrev pub invariant-loop-condition : goal.invariant-loop-condition
invariant-loop-condition l = outcomes.chosen_outcome (drop l.condition-index l.conditions) l.left l.other ≡ outcomes.chosen_outcome l.conditions l.branches l.other
