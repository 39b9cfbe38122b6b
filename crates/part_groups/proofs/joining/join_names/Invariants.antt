use Rattle.std.proofs.Common.{◌≡◌, ◌++◌, take}
use Rattle.part_groups.specs.private.Joining.{pairs_of}
use Rattle.part_groups.proofs.joining.join_names.Given as goal

abbrev pub invariant-loop-name : goal.invariant-loop-name
invariant-loop-name l = l.pairs ≡ l.fn.pairs ++ pairs_of l.owners l.unit (take l.name-index l.names)
