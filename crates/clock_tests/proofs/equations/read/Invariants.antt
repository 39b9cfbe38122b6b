use Rattle.std.proofs.Common.{◌≡◌, true, All}
use Rattle.flat_model.specs.RawModels.{HasConstants, constants_fit}
use Rattle.clock_tests.proofs.equations.read.Given as goal

abbrev pub invariant-loop-equation : goal.invariant-loop-equation
invariant-loop-equation g l = All HasConstants l.equations × All (λ clause. constants_fit clause ≡ true) l.clauses
