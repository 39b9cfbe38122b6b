use Rattle.std.proofs.Common.{◌≡◌, take}
use Rattle.class_scopes.specs.Places.{least}
use Rattle.argument_rules.specs.Targets.{misplaced_in}
use Rattle.argument_rules.proofs.target.+misplaced.Given as goal

abbrev pub invariant-misplaced_in-loop-arg : goal.invariant-misplaced_in-loop-arg
invariant-misplaced_in-loop-arg l =
    l.least ≡ least (misplaced_in l.scopes.named.file.text.now l.scopes.named.file.classes.now l.inside (take l.arg-index l.args))
