use Rattle.std.proofs.Common.{◌≡◌, drop}
use Rattle.std.specs.List.{list_any}
use Rattle.class_sizes.specs.Owners.{is_equal}
use Rattle.class_sizes.proofs.owning.any_equal.Given as goal

abbrev pub invariant-loop-equation : goal.invariant-loop-equation
invariant-loop-equation l = list_any is_equal (drop l.equation-index l.inside) ≡ list_any is_equal l.inside
