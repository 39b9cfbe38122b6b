use Rattle.mo_connect.specs.Chain.{AreBelow}
use Rattle.layer_tests.proofs.connections.listed.Given as goal

abbrev pub invariant-loop-a : goal.invariant-loop-a
invariant-loop-a g l = AreBelow l.count l.list
