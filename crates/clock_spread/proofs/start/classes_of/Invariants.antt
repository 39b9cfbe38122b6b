use Rattle.std.proofs.Common.{◌≡◌, ℕ, ◌<◌, ◌↔◌, true, Contains}
use Rattle.clock_spread.specs.Queue.{marked}
use Rattle.clock_spread.proofs.start.classes_of.Given as goal

abbrev pub invariant-loop-class : goal.invariant-loop-class
invariant-loop-class l = (c : ℕ) → Contains l.first.items c ↔ ((c < l.class) × (marked l.fn.marks c ≡ true))
