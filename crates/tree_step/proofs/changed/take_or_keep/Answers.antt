use Rattle.std.proofs.Common.{subst, Some}
use Rattle.tree_step.specs.Starts.{sight_of}
use Rattle.tree_step.specs.private.Changed.{IsAgain}
use Rattle.tree_step.proofs.changed.take_or_keep.Goals as goal

pub returns-in-Some : goal.returns-in-Some
returns-in-Some c =
    let again : IsAgain (sight_of c.args.scene.now) c.args.cells.now c.args.entry.name c.args.reads.now (Some c.in-Some.value) =
    subst (IsAgain (sight_of c.args.scene.now) c.args.cells.now c.args.entry.name c.args.reads.now) c.in-Some.is c.value_again.ensures in
    c.requires.again c.in-Some.value again.0 again.1
