use Rattle.clock_tests.proofs.Constants.{more_fit}
use Rattle.clock_tests.proofs.expressions.Reader.+raw.Goals as goal

pub parts-loop-part-preserved : goal.parts-loop-part-preserved
parts-loop-part-preserved t c = rw c.in_ok-push.ensures.ok (more_fit c.loop-part.found c.in_ok-expression.field-0 c.loop-part.invariant c.in_ok-expression.ensures)
