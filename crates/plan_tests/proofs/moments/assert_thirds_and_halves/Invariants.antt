use Rattle.std.proofs.Common.{◌≡◌, length}
use Rattle.plan_tests.proofs.moments.assert_thirds_and_halves.Given as goal

abbrev pub invariant-loop-second : goal.invariant-loop-second
invariant-loop-second g l = length (g.P.TickSource.planned l.plan).noted ≡ 2
