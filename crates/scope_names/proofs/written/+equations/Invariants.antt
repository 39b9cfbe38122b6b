use Rattle.std.proofs.Common.{map, take}
use Rattle.scope_names.specs.Written.{Adds, joined, names_in_equation}
use Rattle.scope_names.proofs.written.+equations.Given as goal

abbrev pub invariant-names_in_equations-loop-equation : goal.invariant-names_in_equations-loop-equation
invariant-names_in_equations-loop-equation l = Adds l.initial.found.items (joined (map names_in_equation (take l.equation-index l.equations))) l.found.items
