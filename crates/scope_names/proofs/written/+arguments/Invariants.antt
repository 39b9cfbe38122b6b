use Rattle.std.proofs.Common.{map, take}
use Rattle.scope_names.specs.Written.{Adds, joined, names_in_arg}
use Rattle.scope_names.proofs.written.+arguments.Given as goal

abbrev pub invariant-names_in_args-loop-arg : goal.invariant-names_in_args-loop-arg
invariant-names_in_args-loop-arg l = Adds l.initial.found.items (joined (map names_in_arg (take l.arg-index l.args))) l.found.items
