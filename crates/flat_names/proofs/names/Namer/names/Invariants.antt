use Rattle.std.proofs.Common.{flat_map, take, Some}
use Rattle.std.specs.List.{AllZip}
use Rattle.parameter_values.specs.Slots.{seen}
use Rattle.flat_answer.specs.Flat.{IsNameOf}
use Rattle.flat_names.specs.private.Naming.{plain_in}
use Rattle.flat_names.proofs.names.Namer.names.Given as goal

abbrev pub invariant-loop-item : goal.invariant-loop-item
invariant-loop-item l =
    AllZip (IsNameOf l.self.file.now.text.now l.self.file.now.classes.now (Some l.self.chosen) (seen l.self.parameters.now l.self.values.now))
    (flat_map (plain_in l.self.file.now.text.now l.self.file.now.classes.now) (take l.item-index l.items)) l.names
