use Rattle.clock_tests.proofs.equations.is_used.Given as goal

abbrev pub invariant-loop-equation : goal.invariant-loop-equation
invariant-loop-equation l = Unit {0}
