use Rattle.std.proofs.Common.{◌≡◌, ◌++◌}
use Rattle.trace_print.specs.private.Openings.{openings}
use Rattle.trace_print.proofs.expr.put_openings.Given as goal

abbrev pub invariant-loop-turn : goal.invariant-loop-turn
invariant-loop-turn l = l.out.items ≡ l.fn.out.items ++ openings l._turn
