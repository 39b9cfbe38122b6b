use Rattle.std.proofs.Common.{◌≡◌, take, length, None}
use Rattle.tree_step.specs.Starts.{sight_of}
use Rattle.tree_step.specs.private.Taking.{TakesAll}
use Rattle.tree_step.proofs.changed.take_changed.Given as goal

abbrev pub invariant-loop-at : goal.invariant-loop-at
invariant-loop-at l = record {
  long : length l.cells ≡ length l.fn.cells;
  takes : TakesAll (sight_of l.scene) (take l.at l.entries) l.fn.cells None l.cells l.told;
}
