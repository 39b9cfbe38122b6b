use Rattle.tick_plan.specs.private.Course.{IsFirstOf}
use Rattle.tick_plan.proofs.Fractions.{IsTickBelow}
use Rattle.tick_plan.proofs.fraction.tick_ahead.Given as goal

abbrev pub invariant-loop-clock : goal.invariant-loop-clock
invariant-loop-clock l = ∥ IsFirstOf (IsTickBelow l.course l.clock-index) l.course.given l.first ∥₁
