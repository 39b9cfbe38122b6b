use Rattle.std.proofs.Common.{Result, drop, length, ◌-◌}
use Rattle.sync_values.specs.declared.value.Fail.{Fail}
use Rattle.flat_model.specs.Meaning.{answers}
use Rattle.eq_orient.specs.private.Undoing.{ChecksAll}
use Rattle.eq_orient.proofs.solving.check_all.Given as goal

abbrev pub invariant-loop-i : goal.invariant-loop-i
invariant-loop-i g l =
    let views = g.V.Lookup.views l.values in
    (r : Result (Unit {0}) Fail) → ChecksAll (answers (drop l.i l.parts) views) r → ChecksAll (answers l.parts views) r

abbrev pub decreases-loop-i : goal.decreases-loop-i
decreases-loop-i g l = length l.parts - l.i
