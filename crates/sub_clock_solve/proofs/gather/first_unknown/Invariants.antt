use Rattle.std.proofs.Common.{◌≡◌, ℕ, ◌<◌, true}
use Rattle.clock_spread.specs.declared.offers.Found.TheVariants.{Not}
use Rattle.clock_spread.specs.Found.{found_of}
use Rattle.clock_spread.specs.Queue.{marked}
use Rattle.sub_clock_solve.proofs.gather.first_unknown.Given as goal

abbrev pub invariant-loop-class : goal.invariant-loop-class
invariant-loop-class l = (c : ℕ) → c < l.class → (marked l.fn.clocked c ≡ true) × (found_of l.fn.found c ≡ Not) → ⊥
