use Rattle.std.proofs.Common.{length, ◌-◌, ◌≡◌, true, drop, map}
use Rattle.std.specs.List.{list_any}
use Rattle.flat_model.specs.Occurrences as spec
use Rattle.eq_orient.proofs.solving.around.Given as goal

abbrev pub invariant-loop-i : goal.invariant-loop-i
invariant-loop-i l = list_any (λ part. part) (map (spec.is_reached l.name) (drop l.i l.parts)) ≡ true

abbrev pub decreases-loop-i : goal.decreases-loop-i
decreases-loop-i l = length l.parts - l.i
