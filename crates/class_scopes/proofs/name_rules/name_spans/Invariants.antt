use Rattle.std.proofs.Common.{◌≡◌, map, take}
use Rattle.class_scopes.proofs.name_rules.name_spans.Given as goal

abbrev pub invariant-loop-element : goal.invariant-loop-element
invariant-loop-element l = l.spans.items ≡ map (λ element. element.name) (take l.element-index l.elements)
