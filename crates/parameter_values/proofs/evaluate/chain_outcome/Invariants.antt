use Rattle.std.proofs.Common.{◌≡◌, drop}
use Rattle.parameter_values.specs.Outcomes as outcomes
use Rattle.parameter_values.proofs.evaluate.chain_outcome.Given as goal

abbrev pub invariant-loop-i : goal.invariant-loop-i
invariant-loop-i l = outcomes.chained_outcome l.total (drop l.i l.ops) (drop l.i l.rest) ≡ outcomes.chain_outcome l.ops l.parts
