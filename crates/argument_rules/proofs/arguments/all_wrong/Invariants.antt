use Rattle.std.proofs.Common.{◌≡◌, flat_map, take}
use Rattle.class_scopes.specs.Places.{least}
use Rattle.argument_rules.specs.N5.{wrong}
use Rattle.argument_rules.proofs.arguments.all_wrong.Given as goal

abbrev pub invariant-loop-class : goal.invariant-loop-class
invariant-loop-class l = l.least ≡ least (flat_map (wrong l.scopes.named.file.text.now l.scopes.named.file.classes.now) (take l.class-index l.classes))
