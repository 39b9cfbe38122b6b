use Rattle.std.proofs.Common.{All, take}
use Rattle.flat_model.specs.RawModels.{HasClauseBelow}
use Rattle.clock_tests.proofs.equations.are_below.Given as goal

abbrev pub invariant-loop-equation : goal.invariant-loop-equation
invariant-loop-equation l = All (HasClauseBelow l.count) (take l.equation-index l.equations)
