use Rattle.std.proofs.Common.{arith}
use Rattle.partition_step.proofs.Laid.{lay_turn}
use Rattle.partition_step.proofs.laying.lay.Goals as goal

pub loop-entry-preserved : goal.loop-entry-preserved
loop-entry-preserved c = record {
  laid = lay_turn c.args.clocking.now c.args.uses.now c.loop-entry.entry-index c.loop-entry.entries c.loop-entry.classes.items c.loop-entry.invariant.laid _ c.loop-entry-test.true
      c.class_of-class.result c.clock_of.result c.in_ok-place.place c.place_of.new.classes.items c.push.new.self c.class_of-class.ensures c.clock_of.ensures c.in_ok-place.ensures.place c.in_ok-push.ensures.ok;
  few = let few = c.loop-entry.invariant.few in let size = c.place_of.ensures.size in omega (arith, few, size);
}
