use Rattle.std.proofs.Common.{◌≡◌, drop}
use Rattle.std.specs.List.{list_all}
use Rattle.flat_model.specs.Typing.{is_type}
use Rattle.flat_types.specs.Readings.{types_of}
use Rattle.flat_types.proofs.operators.are_of_type.Given as goal

abbrev pub invariant-loop-part : goal.invariant-loop-part
invariant-loop-part l = list_all (is_type l.kind) (types_of l.names (drop l.part-index l.parts)) ≡ list_all (is_type l.kind) (types_of l.names l.parts)
