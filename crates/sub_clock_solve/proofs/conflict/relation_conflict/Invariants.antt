use Rattle.std.proofs.Common.{take}
use Rattle.clock_terms.specs.Clocking.{Held}
use Rattle.clock_spread.specs.Found.{Agree}
use Rattle.clock_spread.specs.Turn.{AreProper}
use Rattle.clock_spread.specs.Least.{IsLeastOf, IsNumberIn}
use Rattle.sub_clock_solve.specs.private.Failing.{FailsGiven}
use Rattle.sub_clock_solve.proofs.conflict.relation_conflict.Given as goal

abbrev pub invariant-loop-relation : goal.invariant-loop-relation
invariant-loop-relation l =
    (held : Held) → Agree l.fn.found held → AreProper held → IsLeastOf (IsNumberIn (λ r. r.equation) (FailsGiven l.fn.class_of held) (take l.relation-index l.fn.relations)) l.least
