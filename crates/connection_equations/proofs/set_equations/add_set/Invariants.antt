use Rattle.std.proofs.Common.{◌≡◌, ◌++◌, map, take}
use Rattle.connection_equations.specs.Sets.{equal}
use Rattle.connection_equations.proofs.set_equations.add_set.Given as goal

abbrev pub invariant-loop-other : goal.invariant-loop-other
invariant-loop-other l = l.equations ≡ l.initial.equations ++ map (equal l.first) (take l.other-index l.others)
