use Rattle.std.proofs.Common.{◌≡◌, ◌++◌, drop}
use Rattle.eq_order.specs.private.Reaching.{waiting}
use Rattle.eq_order.proofs.reads.unreached.Given as goal

abbrev pub invariant-loop-name : goal.invariant-loop-name
invariant-loop-name l = l.list ++ waiting l.reached (drop l.name-index l.names) ≡ waiting l.reached l.names
