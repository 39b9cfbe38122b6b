use Rattle.std.proofs.Common.{map, take}
use Rattle.scope_names.specs.Written.{Adds, joined, connected_in}
use Rattle.scope_names.proofs.written.+connected.Given as goal

abbrev pub invariant-connected_in_all-loop-equation : goal.invariant-connected_in_all-loop-equation
invariant-connected_in_all-loop-equation l = Adds l.initial.found.items (joined (map connected_in (take l.equation-index l.equations))) l.found.items
