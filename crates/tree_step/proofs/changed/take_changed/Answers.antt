use Rattle.std.proofs.Common.{◌∙◌}
use Rattle.tree_step.specs.Starts.{sight_of}
use Rattle.tree_step.proofs.Going.{has_taken}
use Rattle.tree_step.proofs.Loop.{plain_start, next_takes, next_can, next_again, takes_whole}
use Rattle.tree_step.proofs.changed.take_changed.Goals as goal

pub take_by-outcome-requires-clause-can : goal.take_by-outcome-requires-clause-can
take_by-outcome-requires-clause-can c =
    next_can (sight_of c.args.scene.now) c.args.entries.now c.args.cells.now c.loop-at.cells c.loop-at.told c.loop-at.at c.loop-at.invariant.takes
    (plain_start (sight_of c.args.scene.now) c.args.entries.now c.args.reads.now c.args.cells.now c.requires) _ c.loop-at-test.true

pub take_by-outcome-requires-clause-again : goal.take_by-outcome-requires-clause-again
take_by-outcome-requires-clause-again c =
    next_again (sight_of c.args.scene.now) c.args.entries.now c.args.cells.now c.loop-at.cells c.loop-at.told c.loop-at.at c.loop-at.invariant.takes c.args.reads.now c.requires _ c.loop-at-test.true

pub loop-at-preserved : goal.loop-at-preserved
loop-at-preserved c = record {
  long = c.put.ensures.size ∙ c.loop-at.invariant.long;
  takes = next_takes (sight_of c.args.scene.now) c.args.entries.now c.args.cells.now c.loop-at.cells c.loop-at.told c.loop-at.at c.loop-at.invariant.takes _ c.take_by-outcome.result
      c.loop-at-test.true c.take_by-outcome.ensures c.put.new.cells c.told_after-told.result c.put.ensures.cells c.told_after-told.ensures;
}

pub returns-clause-takes : goal.returns-clause-takes
returns-clause-takes c = λ s uses before after S m base start.
    has_taken s uses before after S m base (sight_of c.args.scene.now) c.args.entries.now c.args.cells.now start c.loop-at.cells c.loop-at.told
    (takes_whole (sight_of c.args.scene.now) c.args.entries.now c.args.cells.now c.loop-at.cells c.loop-at.told c.loop-at.at c.loop-at.invariant.takes c.loop-at-test.false)
