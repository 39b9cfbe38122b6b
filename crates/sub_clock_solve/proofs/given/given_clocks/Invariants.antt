use Rattle.std.proofs.Common.{List, ◌++◌, drop}
use Rattle.clock_terms.specs.Source.{sources_from, sources_of}
use Rattle.sub_clock_solve.specs.declared.given.Given.{Given}
use Rattle.sub_clock_solve.specs.private.Given.{AreSources}
use Rattle.sub_clock_solve.proofs.given.given_clocks.Given as goal

abbrev pub invariant-loop-constructor : goal.invariant-loop-constructor
invariant-loop-constructor l = (gs : List Given) → AreSources gs (sources_from l.site (drop l.constructor-index l.fn.constructors)) → AreSources (l.givens.items ++ gs) (sources_of l.fn.constructors)
