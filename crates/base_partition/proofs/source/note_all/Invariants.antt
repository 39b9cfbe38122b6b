use Rattle.std.proofs.Common.{◌≡◌, length, take}
use Rattle.base_partition.specs.private.Sources.{AreKept}
use Rattle.base_partition.proofs.source.note_all.Given as goal

abbrev pub invariant-loop-constructor : goal.invariant-loop-constructor
invariant-loop-constructor l = (length l.bases ≡ length l.fn.bases) × AreKept l.fn.classes (take l.constructor-index l.fn.constructors) l.bases
