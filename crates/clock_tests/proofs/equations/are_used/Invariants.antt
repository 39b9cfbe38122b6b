use Rattle.std.proofs.Common.{ℕ, ◌<◌}
use Rattle.clock_tests.specs.Raws.{HasEquation}
use Rattle.clock_tests.proofs.equations.are_used.Given as goal

abbrev pub invariant-loop-clause : goal.invariant-loop-clause
invariant-loop-clause l = (k : ℕ) → k < l.clause → HasEquation l.fn.equations k
