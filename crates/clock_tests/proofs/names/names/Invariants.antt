use Rattle.flat_model.specs.Models.{AreNames}
use Rattle.clock_tests.proofs.names.names.Given as goal

abbrev pub invariant-loop-element : goal.invariant-loop-element
invariant-loop-element g l = AreNames l.names
