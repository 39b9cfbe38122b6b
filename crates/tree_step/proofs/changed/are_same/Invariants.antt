use Rattle.std.proofs.Common.{All, take}
use Rattle.tree_step.specs.Starts.{sight_of}
use Rattle.tree_step.specs.private.Changed.{IsSame}
use Rattle.tree_step.proofs.changed.are_same.Given as goal

abbrev pub invariant-loop-name : goal.invariant-loop-name
invariant-loop-name l = All (IsSame (sight_of l.scene) l.cells l.own) (take l.name-index l.names)
