use Rattle.std.proofs.Common.{◌≡◌, map, take}
use Rattle.eq_order.specs.private.Tables.{is_known}
use Rattle.eq_order.proofs.reads.known_names.Given as goal

abbrev pub invariant-loop-name : goal.invariant-loop-name
invariant-loop-name l = l.known.items ≡ map is_known (take l.name-index l.names)
