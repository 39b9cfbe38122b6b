use Rattle.std.proofs.Common.{◌≡◌, flat_map, take}
use Rattle.instance_sizes.specs.private.Measures.{free_name}
use Rattle.instance_sizes.proofs.names.free_names.Given as goal

abbrev pub invariant-loop-item : goal.invariant-loop-item
invariant-loop-item l = l.found.items ≡ flat_map free_name (take l.item-index l.items)
