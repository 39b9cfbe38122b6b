use Rattle.std.proofs.Common.{◌≡◌, map, drop}
use Rattle.std.specs.List.{list_any}
use Rattle.moment_order.specs.private.Resting.{rests}
use Rattle.moment_order.proofs.resting.+resting.Given as goal

abbrev pub invariant-any_rests-loop-part : goal.invariant-any_rests-loop-part
invariant-any_rests-loop-part l =
    list_any (λ b. b) (map (rests l.late) (drop l.part-index l.parts)) ≡ list_any (λ b. b) (map (rests l.late) l.parts)
