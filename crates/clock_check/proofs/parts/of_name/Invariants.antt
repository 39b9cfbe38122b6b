use Rattle.clock_check.specs.private.Making.{AreNumbersOfNames}
use Rattle.clock_check.proofs.parts.of_name.Given as goal

abbrev pub invariant-loop-x : goal.invariant-loop-x
invariant-loop-x l = AreNumbersOfNames l.fn.names l.fn.class_of l.fn.numbers l.x l.list
