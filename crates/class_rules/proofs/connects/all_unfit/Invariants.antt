use Rattle.std.proofs.Common.{◌≡◌, flat_map, take}
use Rattle.class_scopes.specs.Places.{least}
use Rattle.class_rules.specs.N8.{unfit_connects}
use Rattle.class_rules.proofs.connects.all_unfit.Given as goal

abbrev pub invariant-loop-class : goal.invariant-loop-class
invariant-loop-class l = l.least ≡ least (flat_map (unfit_connects l.scopes.named.file.text.now l.scopes.named.file.classes.now) (take l.class-index l.classes))
