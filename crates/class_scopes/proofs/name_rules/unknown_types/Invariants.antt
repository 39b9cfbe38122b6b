use Rattle.std.proofs.Common.{◌≡◌, flat_map, take}
use Rattle.class_scopes.specs.Places.{least}
use Rattle.class_scopes.specs.N1.{unknown_type}
use Rattle.class_scopes.proofs.name_rules.unknown_types.Given as goal

abbrev pub invariant-loop-element : goal.invariant-loop-element
invariant-loop-element l = l.least ≡ least (flat_map (λ element. unknown_type l.file.text.now l.file.classes.now element.base) (take l.element-index l.element-items))
