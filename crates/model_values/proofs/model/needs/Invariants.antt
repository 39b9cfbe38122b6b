use Rattle.std.proofs.Common.{◌≡◌, map, flat_map, take}
use Rattle.value_rules.specs.Needs.{needed}
use Rattle.model_values.specs.private.ItemNeeds.{needs_in}
use Rattle.model_values.proofs.model.needs.Given as goal

abbrev pub invariant-loop-item : goal.invariant-loop-item
invariant-loop-item l = map needed l.found.items ≡ flat_map (needs_in l.file.text.now l.file.classes.now) (take l.item-index l.items)
