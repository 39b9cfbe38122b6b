use Rattle.std.proofs.Common.{List, All, take}
use Rattle.clock_terms.specs.Position.{IsProper}
use Rattle.clock_terms.specs.Source.{Source}
use Rattle.clock_terms.specs.Clocking.{Held}
use Rattle.clock_spread.specs.Found.{Agree}
use Rattle.clock_spread.specs.Turn.{AreProper}
use Rattle.clock_spread.specs.Least.{IsLeastOf, IsNumberIn}
use Rattle.sub_clock_solve.specs.private.Given.{AreSources}
use Rattle.sub_clock_solve.specs.private.Failing.{Differs}
use Rattle.sub_clock_solve.proofs.conflict.source_conflict.Given as goal

abbrev pub invariant-loop-given : goal.invariant-loop-given
invariant-loop-given l =
    (held : Held) (sources : List Source) → Agree l.fn.found held → AreProper held → AreSources l.fn.givens sources → All (λ s. IsProper s.clock) sources
    → IsLeastOf (IsNumberIn (λ s. s.equation) (Differs l.fn.class_of held) (take l.given-index sources)) l.least
