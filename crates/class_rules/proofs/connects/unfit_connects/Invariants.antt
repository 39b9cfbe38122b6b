use Rattle.std.proofs.Common.{◌≡◌, flat_map, take}
use Rattle.class_scopes.specs.Places.{least}
use Rattle.class_rules.specs.N8.{unfit}
use Rattle.class_rules.proofs.connects.unfit_connects.Given as goal

abbrev pub invariant-loop-equation : goal.invariant-loop-equation
invariant-loop-equation l = l.least ≡ least (flat_map (unfit l.scopes.named.file.text.now l.scopes.named.file.classes.now l.class) (take l.equation-index l.equation-items))
