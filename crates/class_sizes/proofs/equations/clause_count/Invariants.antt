use Rattle.std.proofs.Common.{◌≡◌, min, take}
use Rattle.std.specs.List.{sum_by}
use Rattle.class_sizes.specs.Equations.{inside_equations}
use Rattle.class_sizes.proofs.equations.clause_count.Given as goal

abbrev pub invariant-loop-equation : goal.invariant-loop-equation
invariant-loop-equation l = l.count ≡ min (sum_by inside_equations (take l.equation-index l.inside)) l.most
