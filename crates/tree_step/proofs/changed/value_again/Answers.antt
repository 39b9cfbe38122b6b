use Rattle.std.proofs.Common.{◌≡◌, sym, subst, All, Option, Some, None, List, ℕ}
use Rattle.sync_values.specs.declared.value.Value.{Value}
use Rattle.flat_model.specs.Values.{value_in}
use Rattle.tree_step.specs.declared.cell.Cell.{Cell}
use Rattle.tree_step.specs.declared.changed.Reads.{Reads}
use Rattle.tree_step.specs.Starts.{Sight, sight_of}
use Rattle.tree_step.specs.private.Changed.{IsSame, IsResting, AreUnchanged, IsAgain}
use Rattle.tree_step.proofs.changed.value_again.Goals as goal

told : (sight : Sight) (cells : List Cell) (own : ℕ) (reads : Reads) → AreUnchanged sight cells own reads → (o : Option Value) → o ≡ value_in sight.left.now own → IsAgain sight cells own reads o
told sight cells own reads unchanged None is = tt
told sight cells own reads unchanged (Some v) is = (unchanged, sym is)

pub returns-then-are_resting : goal.returns-then-are_resting
returns-then-are_resting c =
    let sight = sight_of c.args.scene.now in
    told sight c.args.cells.now c.args.entry.name c.args.reads.now (
      subst (All (IsSame sight c.args.cells.now c.args.entry.name)) c.as_slice.ensures (c.are_same.ensures c.if-are_same.true),
      subst (All (IsResting sight c.args.cells.now)) c.as_slice-then-are_same.ensures (c.are_resting.ensures c.if-are_resting.true),
    ) c.left_value.result c.left_value.ensures
