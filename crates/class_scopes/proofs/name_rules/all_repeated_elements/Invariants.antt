use Rattle.std.proofs.Common.{◌≡◌, flat_map, take}
use Rattle.class_scopes.specs.Places.{least}
use Rattle.class_scopes.specs.N2.{repeated_elements}
use Rattle.class_scopes.proofs.name_rules.all_repeated_elements.Given as goal

abbrev pub invariant-loop-class : goal.invariant-loop-class
invariant-loop-class l = l.least ≡ least (flat_map (repeated_elements l.file.text.now l.file.classes.now) (take l.class-index l.classes))
