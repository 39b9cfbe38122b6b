use Rattle.std.proofs.Common.{◌≡◌, ◌++◌, ◌+◌, drop}
use Rattle.trace_print.specs.Modes.{equation_lines}
use Rattle.trace_print.proofs.model_text.put_equation_lines.Given as goal

abbrev pub invariant-loop-equation : goal.invariant-loop-equation
invariant-loop-equation l = record {
  number : l.number ≡ l.equation-index;
  text : l.out.items ++ equation_lines l.flat (l.equation-index + 1) (drop l.equation-index l.flat.equations) ≡ l.fn.out.items ++ equation_lines l.flat 1 l.flat.equations;
}
