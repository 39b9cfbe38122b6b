use Rattle.std.proofs.Common.{◌≡◌, ◌++◌, false, map, drop, length, replicate}
use Rattle.eq_order.specs.Order.{use_of}
use Rattle.moment_order.specs.private.Resting.{stages_from}
use Rattle.moment_order.proofs.division.stages.Given as goal

abbrev pub invariant-loop-entry : goal.invariant-loop-entry
invariant-loop-entry l =
    l.stages ++ stages_from l.flat.equations l.clocking l.late.items (map use_of (drop l.entry-index l.uses))
    ≡ stages_from l.flat.equations l.clocking (replicate (length l.flat.names) false) (map use_of l.uses)
