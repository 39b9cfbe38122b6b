use Rattle.std.proofs.Common.{All, take_all, subst}
use Rattle.std.proofs.lemmas.List.Elements.{All-more}
use Rattle.tree_step.specs.Starts.{sight_of}
use Rattle.tree_step.specs.private.Changed.{IsSame}
use Rattle.tree_step.proofs.changed.are_same.Goals as goal

pub loop-name-preserved : goal.loop-name-preserved
loop-name-preserved c =
    All-more (IsSame (sight_of c.args.scene.now) c.args.cells.now c.args.own) c.args.names.now c.loop-name.name-index 0 c.loop-name-test.true c.loop-name.invariant (c.is_same.ensures c.if-not-is_same.false)

pub returns : goal.returns
returns c = λ is_true.
    subst (All (IsSame (sight_of c.args.scene.now) c.args.cells.now c.args.own)) (take_all c.loop-name.name-index c.args.names.now c.loop-name-test.false) c.loop-name.invariant
