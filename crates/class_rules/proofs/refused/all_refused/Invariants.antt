use Rattle.std.proofs.Common.{◌≡◌, flat_map, take}
use Rattle.class_scopes.specs.Places.{least}
use Rattle.class_rules.specs.N9.{refused}
use Rattle.class_rules.proofs.refused.all_refused.Given as goal

abbrev pub invariant-loop-class : goal.invariant-loop-class
invariant-loop-class l = l.least ≡ least (flat_map (refused l.file.text.now l.file.classes.now) (take l.class-index l.classes))
