use Rattle.std.proofs.Common.{flat_map, take}
use Rattle.scope_names.specs.Written.{Adds, names_in_element}
use Rattle.scope_names.proofs.unknown.names_in_elements.Given as goal

abbrev pub invariant-loop-element : goal.invariant-loop-element
invariant-loop-element l = Adds l.initial.found.items (flat_map names_in_element (take l.element-index l.elements)) l.found.items
