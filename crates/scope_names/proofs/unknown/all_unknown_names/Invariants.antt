use Rattle.std.proofs.Common.{◌≡◌, flat_map, take}
use Rattle.class_scopes.specs.Places.{least}
use Rattle.scope_names.specs.N3.{unknown_names}
use Rattle.scope_names.proofs.unknown.all_unknown_names.Given as goal

abbrev pub invariant-loop-class : goal.invariant-loop-class
invariant-loop-class l = l.least ≡ least (flat_map (unknown_names l.scopes.named.file.text.now l.scopes.named.file.classes.now) (take l.class-index l.classes))
