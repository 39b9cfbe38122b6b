use Rattle.std.proofs.Common.{◌≡◌, map, drop}
use Rattle.std.specs.List.{list_any}
use Rattle.tree_step.specs.private.Lacking.{lacks, is_missing, is_unsettled}
use Rattle.tree_step.proofs.lacking.+lacking.Given as goal

abbrev pub invariant-any_lacks-loop-part : goal.invariant-any_lacks-loop-part
invariant-any_lacks-loop-part l =
    list_any (λ b. b) (map (lacks (is_missing l.sought.places.now l.sought.cells.now l.sought.own) (is_unsettled l.sought.places.now l.sought.cells.now)) (drop l.part-index l.parts)) ≡ list_any (λ b. b) (map (lacks (is_missing l.sought.places.now l.sought.cells.now l.sought.own) (is_unsettled l.sought.places.now l.sought.cells.now)) l.parts)
