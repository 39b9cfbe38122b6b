use Rattle.std.proofs.Common.{take}
use Rattle.base_partition.specs.private.Sources.{IsLeastOf}
use Rattle.base_partition.proofs.source.least.Given as goal

abbrev pub invariant-loop-base : goal.invariant-loop-base
invariant-loop-base l = IsLeastOf (take l.base-index l.fn.bases) l.found
