use Rattle.std.proofs.Common.{◌≡◌, flat_map, take}
use Rattle.class_scopes.specs.Places.{least}
use Rattle.class_rules.specs.N9.{refused_component}
use Rattle.class_rules.proofs.refused.refused_components.Given as goal

abbrev pub invariant-loop-element : goal.invariant-loop-element
invariant-loop-element l = l.least ≡ least (flat_map (refused_component l.file.text.now l.file.classes.now l.kind) (take l.element-index l.elements))
