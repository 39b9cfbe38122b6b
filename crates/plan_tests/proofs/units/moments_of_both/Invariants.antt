use Rattle.std.proofs.Common.{◌≡◌, length}
use Rattle.tick_plan.specs.Seen.{grid_seen}
use Rattle.tick_plan.specs.SeenFractions.{fraction_seen}
use Rattle.plan_tests.proofs.units.moments_of_both.Given as goal

abbrev pub invariant-loop-number : goal.invariant-loop-number
invariant-loop-number g l = (length (grid_seen l.grid).noted ≡ 2) × (length (fraction_seen l.fractions).noted ≡ 2)
