use Rattle.std.proofs.Common.{◌≡◌, min, take}
use Rattle.std.specs.List.{sum_by}
use Rattle.class_sizes.specs.Equations.{equations_at}
use Rattle.class_sizes.proofs.equations.count_of.Given as goal

abbrev pub invariant-loop-equation : goal.invariant-loop-equation
invariant-loop-equation l = l.count ≡ min (sum_by equations_at (take l.equation-index l.equations)) l.most
