use Rattle.std.proofs.Common.{◌∙◌}
use Rattle.tree_step.specs.Starts.{sight_of}
use Rattle.tree_step.proofs.Going.{has_taken}
use Rattle.tree_step.proofs.Loop.{next_takes, next_can, takes_whole}
use Rattle.tree_step.proofs.taking.take_uses.Goals as goal

pub take_one-outcome-requires : goal.take_one-outcome-requires
take_one-outcome-requires c =
    next_can (sight_of c.args.scene.now) c.args.entries.now c.args.cells.now c.loop-entry.cells c.loop-entry.told c.loop-entry.entry-index c.loop-entry.invariant.takes c.requires _ c.loop-entry-test.true

pub loop-entry-preserved : goal.loop-entry-preserved
loop-entry-preserved c = record {
  long = c.put.ensures.size ∙ c.loop-entry.invariant.long;
  takes = next_takes (sight_of c.args.scene.now) c.args.entries.now c.args.cells.now c.loop-entry.cells c.loop-entry.told c.loop-entry.entry-index c.loop-entry.invariant.takes _ c.take_one-outcome.result
      c.loop-entry-test.true c.take_one-outcome.ensures c.put.new.cells c.told_after-told.result c.put.ensures.cells c.told_after-told.ensures;
}

pub returns-clause-takes : goal.returns-clause-takes
returns-clause-takes c = λ s uses before after S m base start.
    has_taken s uses before after S m base (sight_of c.args.scene.now) c.args.entries.now c.args.cells.now start c.loop-entry.cells c.loop-entry.told
    (takes_whole (sight_of c.args.scene.now) c.args.entries.now c.args.cells.now c.loop-entry.cells c.loop-entry.told c.loop-entry.entry-index c.loop-entry.invariant.takes c.loop-entry-test.false)
