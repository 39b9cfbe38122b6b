use Rattle.std.proofs.Common.{◌≡◌, ◌≢◌, ℕ, ◌<◌, ◌↔◌, vec_len, true}
use Rattle.clock_spread.specs.declared.offers.Found.TheVariants.{Not}
use Rattle.clock_spread.specs.Found.{found_of}
use Rattle.clock_spread.specs.Queue.{marked}
use Rattle.clock_spread.proofs.start.marks_of.Given as goal

abbrev pub invariant-loop-one : goal.invariant-loop-one
invariant-loop-one l = (vec_len l.marks ≡ l.one-index) × ((c : ℕ) → c < l.one-index → (marked l.marks.items c ≡ true) ↔ (found_of l.fn.found c ≢ Not))
