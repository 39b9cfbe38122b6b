use Rattle.std.proofs.Common.{◌≡◌, length}
use Rattle.tick_plan.specs.Seen.{grid_seen}
use Rattle.plan_tests.proofs.units.go_on_by.Given as goal

abbrev pub invariant-loop : goal.invariant-loop
invariant-loop g l = length (grid_seen l.plan).noted ≡ 2
