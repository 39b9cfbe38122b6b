use Rattle.std.proofs.Common.{◌≡◌, ◌++◌, take}
use Rattle.part_groups.specs.private.Asking.{all_names}
use Rattle.part_groups.proofs.asking.+asking.Given as goal

abbrev pub invariant-add_all-loop-part : goal.invariant-add_all-loop-part
invariant-add_all-loop-part l = l.names.items ≡ l.fn.names.items ++ all_names (take l.part-index l.parts)
