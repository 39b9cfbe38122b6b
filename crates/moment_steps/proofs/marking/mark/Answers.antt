use Rattle.std.proofs.Common.{rules}
use Rattle.moment_steps.specs.Ticked.{row_ticks}
use Rattle.moment_steps.proofs.Marked.{same_then, marked_all}
use Rattle.moment_steps.proofs.marking.mark.Goals as goal

pub loop-class-preserved : goal.loop-class-preserved
loop-class-preserved g c = record {
  same = same_then c.args.slots.now c.loop-class.slots c.mark_class.new.slots c.loop-class.invariant.same c.mark_class.ensures.same;
  marked = c.mark_class.ensures.marks c.loop-class.invariant.marked;
}

pub returns-clause-marked : goal.returns-clause-marked
returns-clause-marked g c = marked_all c.args.partitions.now (row_ticks c.args.ticks.now) c.loop-class.slots c.loop-class.class (search rules) c.loop-class.invariant.marked
