use Rattle.std.proofs.Common.{◌≡◌, ◌++◌}
use Rattle.stress_text.specs.Text.{equation_lines, lines_of}
use Rattle.stress_text.proofs.text.put_all_equations.Given as goal

abbrev pub invariant-loop-k : goal.invariant-loop-k
invariant-loop-k l = l.out.items ≡ l.fn.out.items ++ lines_of equation_lines l.k
