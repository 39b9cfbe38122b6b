use Rattle.std.proofs.Common.{◌≡◌, take, length, None}
use Rattle.tree_step.specs.Starts.{sight_of}
use Rattle.tree_step.specs.private.Taking.{TakesAll}
use Rattle.tree_step.proofs.taking.take_uses.Given as goal

abbrev pub invariant-loop-entry : goal.invariant-loop-entry
invariant-loop-entry l = record {
  long : length l.cells ≡ length l.fn.cells;
  takes : TakesAll (sight_of l.scene) (take l.entry-index l.entries) l.fn.cells None l.cells l.told;
}
