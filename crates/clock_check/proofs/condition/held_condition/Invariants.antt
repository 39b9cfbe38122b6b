use Rattle.std.proofs.Common.{take}
use Rattle.clock_spread.specs.Least.{IsLeastOf}
use Rattle.clock_check.specs.private.Holding.{IsHoldingAt}
use Rattle.clock_check.proofs.condition.held_condition.Given as goal

abbrev pub invariant-loop-j : goal.invariant-loop-j
invariant-loop-j l = IsLeastOf (IsHoldingAt l.fn.class_of l.fn.holds (take l.j l.fn.nodes) l.fn.first) l.least
