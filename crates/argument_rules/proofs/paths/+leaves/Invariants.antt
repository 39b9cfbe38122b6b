use Rattle.std.proofs.Common.{take}
use Rattle.argument_rules.specs.Paths.{Adds, leaves_in}
use Rattle.argument_rules.proofs.paths.+leaves.Given as goal

abbrev pub invariant-leaves_in-loop-arg : goal.invariant-leaves_in-loop-arg
invariant-leaves_in-loop-arg l = Adds l.initial.found.items (leaves_in l.text l.prefix (take l.arg-index l.args)) l.found.items
