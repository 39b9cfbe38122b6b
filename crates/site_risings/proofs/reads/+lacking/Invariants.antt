use Rattle.std.proofs.Common.{◌≡◌, map, drop}
use Rattle.std.specs.List.{list_any}
use Rattle.site_risings.specs.private.Lacking.{lacks}
use Rattle.site_risings.proofs.reads.+lacking.Given as goal

abbrev pub invariant-any_lacks-loop-part : goal.invariant-any_lacks-loop-part
invariant-any_lacks-loop-part l =
    list_any (λ b. b) (map (lacks l.now) (drop l.part-index l.parts)) ≡ list_any (λ b. b) (map (lacks l.now) l.parts)
