use Rattle.std.proofs.Common.{◌≡◌, ◌++◌, drop}
use Rattle.base_partition.specs.private.Pairs.{class_pairs}
use Rattle.base_partition.proofs.joining.joined.Given as goal

abbrev pub invariant-loop-conversion : goal.invariant-loop-conversion
invariant-loop-conversion l =
    l.pairs ++ class_pairs l.fn.members l.fn.class_of (drop l.conversion-index l.fn.conversions) ≡ class_pairs l.fn.members l.fn.class_of l.fn.conversions
