use Rattle.partition_step.proofs.Lists.{WrittenTo}
use Rattle.window_plan.proofs.planning.ask_ticks.Given as goal

abbrev pub invariant-loop-class : goal.invariant-loop-class
invariant-loop-class g l = WrittenTo (λ class old. g.P.Ticking.ticks l.plan class) l.fn.ticks l.class l.ticks
