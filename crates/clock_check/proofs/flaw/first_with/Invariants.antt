use Rattle.std.proofs.Common.{ℕ, ◌<◌, Bool, List}
use Rattle.clock_check.specs.private.Numbering.{AreNumbers}
use Rattle.clock_check.specs.private.Flaws.{IsFlawAt}
use Rattle.clock_check.proofs.flaw.first_with.Given as goal

abbrev pub invariant-loop-class : goal.invariant-loop-class
invariant-loop-class l = (clocked : List Bool) → AreNumbers clocked l.fn.numbers → (c : ℕ) → c < l.class → IsFlawAt l.fn.flaw clocked l.fn.grids c → ⊥
