use Rattle.std.proofs.Common.{Bool, List, take}
use Rattle.clock_spread.specs.Least.{IsLeastOf, IsNumberIn}
use Rattle.clock_check.specs.private.Numbering.{AreNumbers}
use Rattle.clock_check.specs.Inferring.{FailsInferred}
use Rattle.clock_check.proofs.factor.missing_factor.Given as goal

abbrev pub invariant-loop-relation : goal.invariant-loop-relation
invariant-loop-relation l =
    (clocked : List Bool) → AreNumbers clocked l.fn.numbers
    → IsLeastOf (IsNumberIn (λ relation. relation.equation) (FailsInferred l.fn.class_of clocked l.fn.grids) (take l.relation-index l.fn.relations)) l.least
