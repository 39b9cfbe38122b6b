use Rattle.std.proofs.Common.{◌≡◌, map, flat_map, take}
use Rattle.parameter_values.specs.Givens.{valued}
use Rattle.model_values.specs.private.ItemNeeds.{parameters_in}
use Rattle.model_values.proofs.model.parameters.Given as goal

abbrev pub invariant-loop-item : goal.invariant-loop-item
invariant-loop-item l = map valued l.found.items ≡ flat_map (parameters_in l.file.text.now l.file.classes.now) (take l.item-index l.items)
