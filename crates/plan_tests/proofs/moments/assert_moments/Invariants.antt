use Rattle.std.proofs.Common.{◌≡◌, length}
use Rattle.plan_tests.proofs.moments.assert_moments.Given as goal

abbrev pub invariant-loop-i : goal.invariant-loop-i
invariant-loop-i g l = length (g.P.TickSource.planned l.plan).noted ≡ 2

abbrev pub invariant-loop : goal.invariant-loop
invariant-loop g l = length (g.P.TickSource.planned l.plan).noted ≡ 2
