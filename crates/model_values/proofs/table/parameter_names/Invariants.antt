use Rattle.std.proofs.Common.{◌≡◌, flat_map, take}
use Rattle.model_values.specs.private.ItemNeeds.{names_in}
use Rattle.model_values.proofs.table.parameter_names.Given as goal

abbrev pub invariant-loop-item : goal.invariant-loop-item
invariant-loop-item l = l.found.items ≡ flat_map names_in (take l.item-index l.items)
