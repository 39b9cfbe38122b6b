use Rattle.partition_step.specs.private.Stepping.{shown_at}
use Rattle.partition_step.proofs.Lists.{WrittenTo}
use Rattle.partition_step.proofs.showing.show.Given as goal

abbrev pub invariant-loop-j : goal.invariant-loop-j
invariant-loop-j g l = WrittenTo (shown_at (g.T.Ticking.ticks l.ticks) l.moment l.classes) l.fn.clocks l.j l.clocks
