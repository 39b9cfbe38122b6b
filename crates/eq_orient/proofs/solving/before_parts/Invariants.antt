use Rattle.std.proofs.Common.{◌≤◌, Result, length, take}
use Rattle.sync_values.specs.declared.value.Value.{Value}
use Rattle.sync_values.specs.declared.value.Fail.{Fail}
use Rattle.flat_model.specs.Operators.{chained}
use Rattle.flat_model.specs.Meaning.{answers}
use Rattle.eq_orient.specs.Solving.{Fits}
use Rattle.eq_orient.specs.private.Undoing.{UndoneBy}
use Rattle.eq_orient.proofs.solving.before_parts.Given as goal

abbrev pub invariant-loop-i : goal.invariant-loop-i
invariant-loop-i g l =
    let parts = answers l.parts (g.V.Lookup.views l.values) in record {
      within : l.i ≤ length l.ops;
      fits : Fits l.total;
      back : (r : Result Value Fail) → UndoneBy (λ a. chained a (take l.i l.ops) (take l.i parts)) l.total r → UndoneBy (λ a. chained a l.ops parts) l.fn.target r;
    }

abbrev pub decreases-loop-i : goal.decreases-loop-i
decreases-loop-i g l = l.i
