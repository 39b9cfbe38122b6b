use Rattle.std.proofs.Common.{◌≡◌, ◌++◌, drop}
use Rattle.trace_print.specs.Modes.{clock_lines}
use Rattle.trace_print.proofs.ticks.put_clock_lines.Given as goal

abbrev pub invariant-loop-x : goal.invariant-loop-x
invariant-loop-x l = l.out.items ++ clock_lines l.clocking l.x (drop l.x l.flat.names) ≡ l.fn.out.items ++ clock_lines l.clocking 0 l.flat.names
