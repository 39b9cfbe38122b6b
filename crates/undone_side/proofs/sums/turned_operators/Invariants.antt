use Rattle.std.proofs.Common.{◌≡◌, map, take}
use Rattle.undone_side.specs.Undone.{inverse}
use Rattle.undone_side.proofs.sums.turned_operators.Given as goal

abbrev pub invariant-loop-op : goal.invariant-loop-op
invariant-loop-op l = l.turned.items ≡ map inverse (take l.op-index l.fn.ops)
