use Rattle.std.proofs.Common.{◌≡◌, ◌+◌, ◌++◌, drop}
use Rattle.clock_check.specs.private.Making.{node_numbers}
use Rattle.clock_check.proofs.parts.of_equation.Given as goal

abbrev pub invariant-loop-j : goal.invariant-loop-j
invariant-loop-j l = l.list ++ node_numbers l.fn.class_of l.fn.numbers (l.fn.first + l.j) (drop l.j l.fn.nodes) ≡ node_numbers l.fn.class_of l.fn.numbers l.fn.first l.fn.nodes
