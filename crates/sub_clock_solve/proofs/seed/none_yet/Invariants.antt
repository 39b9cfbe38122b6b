use Rattle.std.proofs.Common.{◌≡◌, ℕ, vec_len}
use Rattle.clock_spread.specs.declared.offers.Found.TheVariants.{Not}
use Rattle.clock_spread.specs.Found.{found_of}
use Rattle.sub_clock_solve.proofs.seed.none_yet.Given as goal

abbrev pub invariant-loop : goal.invariant-loop
invariant-loop l = (vec_len l.found ≡ l.counter) × ((c : ℕ) → found_of l.found.items c ≡ Not)
