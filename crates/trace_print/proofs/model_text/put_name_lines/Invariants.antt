use Rattle.std.proofs.Common.{◌≡◌, ◌++◌, drop}
use Rattle.trace_print.specs.Modes.{name_lines}
use Rattle.trace_print.proofs.model_text.put_name_lines.Given as goal

abbrev pub invariant-loop-name : goal.invariant-loop-name
invariant-loop-name l = l.out.items ++ name_lines (drop l.name-index l.names) ≡ l.fn.out.items ++ name_lines l.names
