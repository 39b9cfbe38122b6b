use Rattle.coded_step.specs.private.Landing.{with_value, value_of}
use Rattle.coded_step.proofs.Lists.{WrittenTo}
use Rattle.coded_step.proofs.landing.land.Given as goal

abbrev pub invariant-loop-i : goal.invariant-loop-i
invariant-loop-i l = WrittenTo (λ i cell. with_value (value_of l.clocks l.entries l.landings l.words i) cell) l.fn.cells l.i l.cells
