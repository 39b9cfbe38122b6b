use Rattle.std.proofs.Common.{◌≡◌, flat_map, take}
use Rattle.class_scopes.specs.Places.{least}
use Rattle.argument_rules.specs.N5.{wrong_component}
use Rattle.argument_rules.proofs.arguments.wrong_components.Given as goal

abbrev pub invariant-loop-element : goal.invariant-loop-element
invariant-loop-element l = l.least ≡ least (flat_map (wrong_component l.scopes.named.file.text.now l.scopes.named.file.classes.now) (take l.element-index l.elements))
