use Rattle.std.proofs.Common.{◌≡◌, flat_map, take}
use Rattle.connection_equations.specs.Sets.{equations_of_set}
use Rattle.connection_equations.proofs.set_equations.equations_of.Given as goal

abbrev pub invariant-loop-set : goal.invariant-loop-set
invariant-loop-set l = l.equations ≡ flat_map equations_of_set (take l.set-index l.sets)
