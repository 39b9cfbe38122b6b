use Rattle.std.proofs.Common.{◌≡◌, flat_map, take}
use Rattle.mo_flatten.specs.private.Named.{parameter_name}
use Rattle.mo_flatten.proofs.faults.parameter_names.Given as goal

abbrev pub invariant-loop-item : goal.invariant-loop-item
invariant-loop-item l = l.found.items ≡ flat_map parameter_name (take l.item-index l.items)
