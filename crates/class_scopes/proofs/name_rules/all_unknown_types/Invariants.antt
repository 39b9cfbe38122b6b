use Rattle.std.proofs.Common.{◌≡◌, flat_map, take}
use Rattle.class_scopes.specs.Places.{least}
use Rattle.class_scopes.specs.N1.{unknown_types}
use Rattle.class_scopes.proofs.name_rules.all_unknown_types.Given as goal

abbrev pub invariant-loop-class : goal.invariant-loop-class
invariant-loop-class l = l.least ≡ least (flat_map (unknown_types l.file.text.now l.file.classes.now) (take l.class-index l.classes))
