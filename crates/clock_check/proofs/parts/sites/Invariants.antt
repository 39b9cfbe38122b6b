use Rattle.std.proofs.Common.{List, ◌++◌, drop}
use Rattle.flat_model.specs.declared.expression.Expr.{Expr}
use Rattle.clock_check.specs.ClockingOf.{AreSites}
use Rattle.clock_check.proofs.parts.sites.Given as goal

abbrev pub invariant-loop-constructor : goal.invariant-loop-constructor
invariant-loop-constructor l = (rest : List Expr) → AreSites (drop l.constructor-index l.fn.constructors) rest → AreSites l.fn.constructors (l.sites ++ rest)
