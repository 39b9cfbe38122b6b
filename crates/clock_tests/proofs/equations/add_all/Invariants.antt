use Rattle.std.proofs.Common.{All}
use Rattle.flat_model.specs.RawModels.{HasConstants}
use Rattle.clock_tests.proofs.equations.add_all.Given as goal

abbrev pub invariant-loop-equation : goal.invariant-loop-equation
invariant-loop-equation g l = All HasConstants l.equations
